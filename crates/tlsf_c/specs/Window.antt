-- What a writer into bytes that are lent to it tells.
use Rattle.std.specs.Prelude.{◌∷◌, length, Some}
use Rattle.mtrace_log.specs.Shown.{WriterState}
use Rattle.tlsf_c.specs.declared.window.Window.{Window}

-- As taken, the name under which the bytes are lent, how many they are, then what stood there, and then what was put.
-- Whoever lent them knows all of these again when the writer comes back
abbrev pub shown : Window → WriterState
shown window = record { taken = Some (window.room.ghost_name ∷ length window.room.now ∷ window.trace.bytes); calls = window.trace.calls }
