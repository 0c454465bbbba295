-- Why words give no order.
use Rattle.std.specs.Prelude.{◌≡◌, ◌≢◌}
use Rattle.clap.specs.Words.{kind_of}
use Rattle.clap.specs.declared.error.Error.{Error}
use Rattle.clap.specs.declared.error.kind.ErrorKind.TheVariants.{OutOfMemory}
use Rattle.command_line.specs.declared.words.WordsFault.{WordsFault}
use Rattle.command_line.specs.declared.words.WordsFault.TheVariants.{NoMemory, Usage}

-- the fault of an error: the error itself, unless it says that an allocation failed
abbrev pub IsFaultOf : Error → WordsFault → Type 0
IsFaultOf error (Usage given) = (given ≡ error) × (kind_of error ≢ OutOfMemory)
IsFaultOf error NoMemory = kind_of error ≡ OutOfMemory
