-- The program's faults for the faults of lines and of a configuration.
use Rattle.ring_lines.specs.declared.answers.LineFault.{LineFault}
use Rattle.ring_lines.specs.declared.answers.LineFault.TheVariants as line
use Rattle.ring_config.specs.declared.config.ConfigFault.{ConfigFault}
use Rattle.ring_config.specs.declared.config.ConfigFault.TheVariants as config
use Rattle.ring_accept.specs.declared.fault.ProgramFault.{ProgramFault}
use Rattle.ring_accept.specs.declared.fault.ProgramFault.TheVariants as program

-- each fault of the lines becomes the program's fault of that kind
abbrev pub told_as : LineFault → ProgramFault
told_as line.Read = program.Read
told_as line.Endless = program.Endless
told_as line.Write = program.Write
told_as line.NoMemory = program.NoMemory

-- and so does each fault of a configuration
abbrev pub config_told_as : ConfigFault → ProgramFault
config_told_as config.Bad = program.Bad
config_told_as config.NoMemory = program.NoMemory
