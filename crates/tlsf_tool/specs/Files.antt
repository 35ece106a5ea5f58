-- The files that are named.
use Rattle.std.specs.Prelude.{◌≡◌, ◌<ℤ◌, pos, Option, Some}
use Rattle.std.specs.Fd.{file_raw_fd}
use Rattle.std.specs.declared.fs.File.{File}
use Rattle.tlsf_tool.specs.declared.files.FileNumber.{FileNumber}

-- the descriptor is none of the three standard streams, which are 0, 1 and 2
abbrev pub IsAboveStreams : File → Type 0
IsAboveStreams file = pos 2 <ℤ file_raw_fd file

-- both are known, and are one file
abbrev pub AreOne : Option FileNumber → Option FileNumber → Type 0
AreOne log image = (file : FileNumber) × (log ≡ Some file) × (image ≡ Some file)
