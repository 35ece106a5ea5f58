use Rattle.std.proofs.Common.{ℕ, List, ◌++◌, take}
use Rattle.tlsf_c.specs.Room.{IsPutOver}
use Rattle.tlsf_c.proofs.room.put_bytes.Given as goal

-- the bytes up to here are put behind those that were
abbrev pub invariant-loop-byte : goal.invariant-loop-byte
invariant-loop-byte l = record { kept : (put stood : List ℕ) → IsPutOver put stood l.fn.room l.start → IsPutOver (put ++ take l.byte-index l.bytes) stood l.room l.end }
