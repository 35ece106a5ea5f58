-- Figures of what is live in a heap with addresses. The eight bytes in front of each block aren't counted.
use Rattle.std.specs.Prelude.{◌≡◌, ℕ, ◌+◌, ◌*◌, ◌%◌, ◌^◌, ◌<◌, ◌≤◌}
use Rattle.tlsf_heap.specs.Content.{Content, blocks_of}
use Rattle.tlsf_heap.specs.Implied.{live_blocks}
use Rattle.tlsf_heap.specs.Room.{live_bytes}
use Rattle.tlsf_c.specs.Fronts.{front}
use Rattle.tlsf_c.specs.declared.live_figures.LiveFigures.{LiveFigures}

-- they tell how many blocks are live, and their bytes behind the fronts; the most was no less, and is told twice
pub record AreFigures (figures : LiveFigures) (content : Content ℕ) : Type 0 where
  pub blocks : figures.blocks ≡ live_blocks content
  pub bytes : figures.bytes + front * figures.blocks ≡ live_bytes (blocks_of content.pools)
  pub most : figures.bytes ≤ figures.most_bytes
  pub again : figures.most_again ≡ figures.most_bytes % 2 ^ 32

-- `gone` live blocks went, of these bytes in all, and `came` came, of those. One that goes and comes got another size
pub record IsLiveChange (gone bytes_gone came bytes_came : ℕ) (old new : Content ℕ) : Type 0 where
  pub blocks : live_blocks new + gone ≡ live_blocks old + came
  pub bytes : live_bytes (blocks_of new.pools) + bytes_gone ≡ live_bytes (blocks_of old.pools) + bytes_came
  pub held : front * live_blocks old + bytes_gone ≤ live_bytes (blocks_of old.pools) + front * gone
  pub least : front * live_blocks new ≤ live_bytes (blocks_of new.pools)
  pub most : live_bytes (blocks_of new.pools) < 2 ^ 34
