-- What stands in a heap.
use Rattle.std.specs.Prelude.{◌≡◌, ℕ, ◌+◌, ◌*◌, ◌^◌, ◌≤◌, not, List, [], ◌∷◌, length, map, flat_map, sum_by, if◌then◌else◌}
use Rattle.std.specs.List.{filter}
use Rattle.tlsf_heap.specs.declared.row.Row.{Row}
use Rattle.tlsf_heap.specs.Content.{Content, blocks_of, is_free}
use Rattle.mtrace_replay.specs.declared.heap.survey.Survey.{Survey}
use Rattle.mtrace_replay.specs.Started.{Bare}
use Rattle.mtrace_replay.specs.Texts.{greatest}

-- the ends of the live blocks, as places
abbrev pub live_ends : Bare → List ℕ
live_ends content = map (λ block. block.place + block.size) (filter (λ block. not (is_free block)) (blocks_of content.pools))

-- the size of a free row, and none of another
abbrev pub free_size : Row → List ℕ
free_size row = if row.used then [] else row.size ∷ []

-- the end of a live row, and none of another
abbrev pub live_end : Row → List ℕ
live_end row = if row.used then (row.place + row.size) ∷ [] else []

-- how many sizes there are, their sum, and the greatest; and the greatest end
pub record IsSurvey (survey : Survey) (sizes ends : List ℕ) : Type 0 where
  pub blocks : survey.free_blocks ≡ length sizes
  pub bytes : survey.free_bytes ≡ sum_by (λ size. size) sizes
  pub largest : survey.largest_free ≡ greatest sizes
  pub reach : survey.reach ≡ greatest ends

-- the survey of these rows
abbrev pub SurveysRows : List Row → Survey → Type 0
SurveysRows rows survey = IsSurvey survey (flat_map free_size rows) (flat_map live_end rows)

-- the survey of these rows: at most this many blocks are free, and 2 ^ 32 bytes for each
pub record SurveysFew (most : ℕ) (rows : List Row) (survey : Survey) : Type 0 where
  pub survey_is : SurveysRows rows survey
  pub blocks : survey.free_blocks ≤ most
  pub bytes : survey.free_bytes ≤ 2 ^ 32 * most

-- the rows are surveyed, and the heap stays as it is
pub record ReadsRows {H : Type 0} (content : H → Content ℕ) (most : ℕ) (rows : List Row) (answer : Survey) (old new : H) : Type 0 where
  pub few : SurveysFew most rows answer
  pub unchanged : content new ≡ content old
