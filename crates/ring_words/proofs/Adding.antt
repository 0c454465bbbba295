-- A command after one more argument or subcommand.
use Rattle.std.proofs.Common.{◌≡◌, ◌∙◌, ◌||◌, Bool, false, ap₂, IfOk, Result, Ok, Err}
use Rattle.std.specs.declared.alloc.AllocError.{AllocError}
use Rattle.clap.specs.Built.{AddsArg, AddsSubcommand}
use Rattle.clap.specs.Simple.{App, app_of, with_rule, with_subcommand}
use Rattle.clap.specs.Walk.{Rule, rule_of}
use Rattle.clap.specs.declared.builder.arg.Arg.{Arg}
use Rattle.clap.specs.declared.builder.command.Command.{Command}
use Rattle.ring_words.specs.private.Words.{IsLocal}

-- a command with one more argument
pub with_arg : (old new : Command) (a : Arg) (app : App) (rule : Rule) → AddsArg old a new → a.global ≡ false → rule_of a ≡ rule → app_of old ≡ app → app_of new ≡ with_rule app rule
with_arg old new a app rule adds own is was = adds.shape own ∙ ap₂ (λ (x : App) (y : Rule). with_rule x y) was is

-- it is local, if it was and the argument is
pub stays_local : (old new : Command) (a : Arg) → AddsArg old a new → a.global ≡ false → IsLocal old → IsLocal new
stays_local old new a adds own was = adds.globals ∙ ap₂ (λ (x y : Bool). x || y) was own

-- the same if an allocation may have failed
pub with_arg_if_ok : (r : Result Command AllocError) (old : Command) (a : Arg) (app : App) (rule : Rule) → IfOk r (AddsArg old a) → a.global ≡ false → rule_of a ≡ rule → app_of old ≡ app
    → IfOk r (λ new. app_of new ≡ with_rule app rule)
with_arg_if_ok (Ok new) old a app rule adds own is was = with_arg old new a app rule adds own is was
with_arg_if_ok (Err refused) old a app rule adds own is was = tt

pub stays_local_if_ok : (r : Result Command AllocError) (old : Command) (a : Arg) → IfOk r (AddsArg old a) → a.global ≡ false → IsLocal old → IfOk r IsLocal
stays_local_if_ok (Ok new) old a adds own was = stays_local old new a adds own was
stays_local_if_ok (Err refused) old a adds own was = tt

-- a command with one more subcommand
pub with_sub : (old new sub : Command) (app below : App) → AddsSubcommand old sub new → IsLocal sub → app_of sub ≡ below → app_of old ≡ app → app_of new ≡ with_subcommand app below.top
with_sub old new sub app below adds own is was = adds.shape own ∙ ap₂ (λ (x : App) (y : App). with_subcommand x y.top) was is

pub with_sub_if_ok : (r : Result Command AllocError) (old sub : Command) (app below : App) → IfOk r (AddsSubcommand old sub) → IsLocal sub → app_of sub ≡ below → app_of old ≡ app
    → IfOk r (λ new. app_of new ≡ with_subcommand app below.top)
with_sub_if_ok (Ok new) old sub app below adds own is was = with_sub old new sub app below adds own is was
with_sub_if_ok (Err refused) old sub app below adds own is was = tt
