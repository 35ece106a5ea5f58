-- What saving and loading a heap leave in a C program's memory.
use Rattle.std.specs.Prelude.{◌≡◌, ℕ, ◌+◌, ◌*◌, ◌≤◌, min, nat_le, if◌then◌else◌, List, length, Option, Some}
use Rattle.tlsf_class.specs.Classes.{classes}
use Rattle.tlsf_heap.specs.declared.image.rule.Rule.{Rule}
use Rattle.tlsf_heap.specs.declared.image.rule.Rule.TheVariants.{Magic, Length, Pools, UnusedPools, States, Links, Chains, Cover, OnChains, Merged, Lists, OnLists}
use Rattle.tlsf_heap.specs.Content.{Content}
use Rattle.tlsf_heap.specs.declared.image_fault.ImageFault.{ImageFault}
use Rattle.tlsf_heap.specs.declared.image_fault.ImageFault.TheVariants.{Broken, OutOfMemory, Write}
use Rattle.tlsf_heap.specs.Counted.{Counted}
use Rattle.tlsf_heap.specs.Images.Described.{described, IsImageOf}
use Rattle.tlsf_c.specs.Room.{put_over}

-- the image isn't whole: there is no room for its end
abbrev pub no_room : ℕ
no_room = 14

-- an image of the content is put, as much of it as there is room for; how much is told, and whether it is all
pub record SavesInto (content : Content ℕ) (status count : ℕ) (old new : List ℕ) : Type 0 where
  pub image : List ℕ
  pub is_image : IsImageOf content image
  pub bytes : new ≡ put_over image old
  pub count_is : count ≡ min (length image) (length old)
  pub status_is : status ≡ (if nat_le (length image) (length old) then 0 else no_room)

-- the number that a C program gets where this is the first rule that is broken: a hundred and the rule's own
abbrev pub broken_number : Rule → ℕ
broken_number Magic = 101
broken_number Length = 102
broken_number Pools = 103
broken_number UnusedPools = 104
broken_number States = 105
broken_number Links = 106
broken_number Chains = 107
broken_number Cover = 108
broken_number OnChains = 109
broken_number Merged = 110
broken_number Lists = 111
broken_number OnLists = 112

-- the number of what keeps an image from being loaded or saved
abbrev pub fault_number : ImageFault → ℕ
fault_number (Broken rule) = broken_number rule
fault_number OutOfMemory = 9
fault_number Write = no_room

-- there is a heap: the one that the image describes, whose making touched its table a bounded number of times
pub record IsLoaded (image : List ℕ) (made : Option Counted) : Type 0 where
  pub heap : Counted
  pub is_there : made ≡ Some heap
  pub content : heap.content ≡ described image
  pub bound : heap.touches ≤ 5 * heap.content.records + 8 * classes
