-- What checking an image reads and writes.
use Rattle.std.specs.Prelude.{◌≡◌, ◌≢◌, ◌≤◌, ◌⊎◌, ◌&&◌, ℕ, ◌+◌, List, ◌∷◌, ◌++◌, length, take, drop, codes, bytes_eq, nat_le, Option, Some, None, Result, Ok, Err, IfOk, IfErr, OnOk, OnErr, IsErrOf, if◌then◌else◌}
use Rattle.std.specs.Io.KnownBytes.{prepend_known, IsAtEnd}
use Rattle.mtrace_log.specs.Output.{Wrote, Begins}
use Rattle.mtrace_log.specs.Trace.{pulled, HasGivenAndFailed, HasNotFailed, HasTakenAndFlushed, HasFailedToWrite}
use Rattle.mtrace_log.specs.Shown.{Bytes, ReaderState, WriterState}
use Rattle.mtrace_log.specs.declared.failed.Failed.{Failed}
use Rattle.mtrace_replay.specs.declared.runs.status.Status.{Status}
use Rattle.mtrace_replay.specs.declared.runs.status.Status.TheVariants.{Clean, Found}
use Rattle.mtrace_replay.specs.declared.runs.status.RunFault.{RunFault}
use Rattle.mtrace_replay.specs.declared.runs.status.RunFault.TheVariants.{Read, Write, OutOfMemory}
use Rattle.tlsf_store.specs.Records.{most_records}
use Rattle.tlsf_heap.specs.declared.image.rule.Rule.{Rule}
use Rattle.tlsf_heap.specs.declared.image.rule.Rule.TheVariants.{Magic, Length, Pools, UnusedPools, States, Links, Chains, Cover, OnChains, Merged, Lists, OnLists}
use Rattle.tlsf_heap.specs.Images.Image.{record_start}
use Rattle.tlsf_heap.specs.Images.Rules.{first_broken}
use Rattle.tlsf_heap.specs.Images.Described.{described}
use Rattle.tlsf_heap.specs.Bare.{bare}
use Rattle.tlsf_heap.specs.Content.{Content}
use Rattle.tlsf_heap.specs.declared.heap.Heap.{Heap}
use Rattle.mtrace_replay.specs.Texts.{walk_report}
use Rattle.tlsf_tool.specs.declared.asked.ImageReport.{ImageReport}
use Rattle.tlsf_tool.specs.declared.asked.ImageReport.TheVariants.{Check, Walk}

-- what `tlsf_save` of c/tlsf.h puts in front of an image begins with these bytes, and has `saved_bytes` of them
abbrev pub saved : List ℕ
saved = codes "TSFSIMG1"

abbrev pub saved_bytes : ℕ
saved_bytes = 280

-- the image among the bytes of a file
abbrev pub image_in : List ℕ → List ℕ
image_in bytes = if nat_le saved_bytes (length bytes) && bytes_eq saved (take (length saved) bytes) then drop saved_bytes bytes else bytes

-- one byte more than the longest file of an image has
abbrev pub most_read : ℕ
most_read = saved_bytes + record_start most_records + 1

-- all bytes of the reader are read, or, where they are more than an image can have, the first of them
pub record HasReadImage (bytes : List ℕ) (left_old left_new : Bytes) : Type 0 where
  pub read : left_old ≡ prepend_known bytes left_new
  pub all : IsAtEnd left_new ⊎ (length bytes ≡ most_read)
  pub few : length bytes ≤ most_read

-- one of these, by whether there is a rule
abbrev pub on_rule : {A : Type 0} → Option Rule → A → (Rule → A) → A
on_rule None whole broken = whole
on_rule (Some rule) whole broken = broken rule

-- the number of a rule
abbrev pub rule_number : Rule → List ℕ
rule_number Magic = codes "1"
rule_number Length = codes "2"
rule_number Pools = codes "3"
rule_number UnusedPools = codes "4"
rule_number States = codes "5"
rule_number Links = codes "6"
rule_number Chains = codes "7"
rule_number Cover = codes "8"
rule_number OnChains = codes "9"
rule_number Merged = codes "10"
rule_number Lists = codes "11"
rule_number OnLists = codes "12"

-- the line of an image that breaks this rule first
abbrev pub rule_text : Rule → List ℕ
rule_text rule = codes "broken: V" ++ (rule_number rule ++ codes "\n")

-- what is told of a whole image, which describes this content
abbrev pub whole_text : ImageReport → Content ℕ → List ℕ
whole_text Check content = codes "ok\n"
whole_text Walk content = walk_report (bare content)

-- what is told of an image, and the status then
abbrev pub image_text : ImageReport → List ℕ → List ℕ
image_text report image = on_rule (first_broken image) (whole_text report (described image)) rule_text

abbrev pub image_status : List ℕ → Status
image_status image = on_rule (first_broken image) Clean (λ rule. Found)

-- the heap of the image, or the first rule that the image breaks
abbrev pub IsLoaded : List ℕ → Result Heap Rule → Type 0
IsLoaded image (Ok heap) = (first_broken image ≡ None) × (heap.content ≡ described image)
IsLoaded image (Err rule) = first_broken image ≡ Some rule

-- what is told of a heap that was loaded or of the rule that was broken, and the status then
abbrev pub loaded_text : ImageReport → Result Heap Rule → List ℕ
loaded_text report (Ok heap) = whole_text report heap.content
loaded_text report (Err rule) = rule_text rule

abbrev pub loaded_status : Result Heap Rule → Status
loaded_status (Ok heap) = Clean
loaded_status (Err rule) = Found

-- the file was read, and what is told of its image was written, and no more
pub record Checks (report : ImageReport) (status : Status) (reader_old reader_new : ReaderState) (writer_old writer_new : WriterState) : Type 0 where
  pub bytes : List ℕ
  pub read : HasReadImage bytes reader_old.left reader_new.left
  pub wrote : Wrote writer_old writer_new (image_text report (image_in bytes))
  pub status_is : status ≡ image_status (image_in bytes)

-- the file was read, and of what is told of its image a beginning was written
pub record ChecksInPart (report : ImageReport) (reader_old reader_new : ReaderState) (writer_old writer_new : WriterState) : Type 0 where
  pub bytes : List ℕ
  pub read : HasReadImage bytes reader_old.left reader_new.left
  pub begun : Begins writer_old writer_new (image_text report (image_in bytes))

-- what one call of the reader gives at the front of a piece, of which it has this room
pub record Pulls (result : Result ℕ Failed) (piece : List ℕ) (room : ℕ) (old new : ReaderState) : Type 0 where
  pub bound : IfOk result (λ n. n ≤ room)
  pub bytes : IfOk result (λ n. old.left ≡ prepend_known (take n piece) new.left)
  pub end : IfOk result (λ n. n ≡ 0 → IsAtEnd new.left)
  pub told : new.calls ≡ pulled result ∷ old.calls

-- What a call leaves that reads an image, by its answer, which holds the bytes.
pub record ReadsImage {T : Type 0} (bytes_of : T → List ℕ) (result : Result T RunFault) (old new : ReaderState) : Type 0 where
  pub read : IfOk result (λ answer. HasReadImage (bytes_of answer) old.left new.left)
  pub failed : IsErrOf result Read → HasGivenAndFailed old.calls new.calls
  pub not_failed : result ≢ Err Read → HasNotFailed old.calls new.calls
  pub faults : IfErr result (λ fault. (fault ≡ Read) ⊎ (fault ≡ OutOfMemory))

-- What a check of an image leaves, by its answer. It fails only where the reader or the writer does, or where memory is refused.
pub record ChecksImage {W : Type 0} (report : ImageReport) (writes : W → WriterState) (result : Result Status RunFault) (reader_old reader_new : ReaderState) (writer_old writer_new : W) : Type 0 where
  pub checks : IfOk result (λ status. Checks report status reader_old reader_new (writes writer_old) (writes writer_new))
  pub flushed : OnOk result (HasTakenAndFlushed (writes writer_old).calls (writes writer_new).calls)
  pub read : IsErrOf result Read → HasGivenAndFailed reader_old.calls reader_new.calls
  pub not_failed : result ≢ Err Read → HasNotFailed reader_old.calls reader_new.calls
  pub begun : IsErrOf result Write → ChecksInPart report reader_old reader_new (writes writer_old) (writes writer_new)
  pub write : IsErrOf result Write → HasFailedToWrite (writes writer_old).calls (writes writer_new).calls
  pub unwritten : result ≢ Err Write → OnErr result (writer_new ≡ writer_old)
  pub faults : IfErr result (λ fault. (fault ≡ Read) ⊎ ((fault ≡ Write) ⊎ (fault ≡ OutOfMemory)))
