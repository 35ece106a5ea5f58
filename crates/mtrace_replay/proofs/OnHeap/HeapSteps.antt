-- What a heap answers, told of its content without slots.
use Rattle.std.proofs.Common.{◌≡◌, ℕ, true, Option, Some, sym, ap, ◌∙◌, Ok, Err}
use Rattle.std.specs.Prelude.{◌==◌}
use Rattle.tlsf_heap.specs.declared.refusal.Refusal.{Refusal}
use Rattle.tlsf_heap.specs.Content.{Content, blocks_of}
use Rattle.tlsf_heap.specs.Pools.{add_pool}
use Rattle.tlsf_heap.specs.Free.{free, is_live}
use Rattle.tlsf_heap.specs.Realloc.{realloc}
use Rattle.tlsf_heap.specs.Bare.{bare, renamed_result, renamed_given, renamed_moved}
use Rattle.tlsf_heap.proofs.Content.BareSteps.{add_pool-renamed}
use Rattle.tlsf_heap.proofs.Content.BareFree.{free-renamed}
use Rattle.tlsf_heap.proofs.Content.BareRealloc.{realloc-renamed}
use Rattle.tlsf_heap.proofs.Good.StaysLive.{live_bare}
use Rattle.mtrace_replay.specs.Started.{left_by}
use Rattle.mtrace_replay.specs.Moment.{asked_block, without}
use Rattle.mtrace_replay.proofs.OnHeap.AskedBlock.{asked-renamed}

module _ (old new : Content ℕ) where
  pub bare_added : (base bytes : ℕ) → add_pool base bytes old ≡ Ok new → bare new ≡ left_by (bare old) (add_pool base bytes (bare old))
  bare_added base bytes added =
      sym (ap (left_by (bare old)) (add_pool-renamed (λ owner. tt) base bytes old ∙ ap (renamed_result (λ owner. tt)) added))

  pub bare_not_added : (base bytes : ℕ) (refusal : Refusal) → add_pool base bytes old ≡ Err refusal → new ≡ old → bare new ≡ left_by (bare old) (add_pool base bytes (bare old))
  bare_not_added base bytes refusal refused same =
      ap bare same ∙ sym (ap (left_by (bare old)) (add_pool-renamed (λ owner. tt) base bytes old ∙ ap (renamed_result (λ owner. tt)) refused))

  pub bare_served : (slot : ℕ) (align : Option ℕ) (n place : ℕ) → asked_block slot align n old ≡ Ok (place, new) → asked_block tt align n (bare old) ≡ Ok (place, bare new)
  bare_served slot align n place served = asked-renamed (λ owner. tt) slot align n old ∙ ap (renamed_given (λ owner. tt)) served

  pub bare_refused : (slot : ℕ) (align : Option ℕ) (n : ℕ) (refusal : Refusal) → asked_block slot align n old ≡ Err refusal → asked_block tt align n (bare old) ≡ Err refusal
  bare_refused slot align n refusal refused = asked-renamed (λ owner. tt) slot align n old ∙ ap (renamed_given (λ owner. tt)) refused

  module _ (place slot : ℕ) (live : is_live (λ other. other == slot) place (blocks_of old.pools) ≡ true) where
    pub bare_freed : free (λ other. other == slot) place old ≡ Ok new → bare new ≡ without place (bare old)
    bare_freed freed =
        sym (ap (left_by (bare old)) (free-renamed (λ owner. tt) (λ other. other == slot) (λ owner. true) place old (live_bare (λ other. other == slot) place old live ∙ sym live)
        ∙ ap (renamed_result (λ owner. tt)) freed))

    pub bare_moved : (owner n moved known : ℕ) → realloc (λ a b. a == b) owner (Some (place, slot)) n old ≡ Ok (Some (moved, known), new)
        → realloc (λ one other. true) tt (Some (place, tt)) n (bare old) ≡ Ok (Some (moved, tt), bare new)
    bare_moved owner n moved known served =
        realloc-renamed (λ owner. tt) (λ a b. a == b) (λ one other. true) owner place slot n old (live_bare (λ other. other == slot) place old live ∙ sym live)
        ∙ ap (renamed_moved (λ owner. tt)) served

    pub bare_not_moved : (owner n : ℕ) (refusal : Refusal) → realloc (λ a b. a == b) owner (Some (place, slot)) n old ≡ Err refusal
        → realloc (λ one other. true) tt (Some (place, tt)) n (bare old) ≡ Err refusal
    bare_not_moved owner n refusal refused =
        realloc-renamed (λ owner. tt) (λ a b. a == b) (λ one other. true) owner place slot n old (live_bare (λ other. other == slot) place old live ∙ sym live)
        ∙ ap (renamed_moved (λ owner. tt)) refused
