-- Pictures, step by step.
use Rattle.std.specs.Prelude.{◌≡◌, ℕ, List, [], ◌∷◌, ◌++◌}
use Rattle.ring_any.specs.declared.any.Any.{Any}
use Rattle.ring_events.specs.declared.event.Command.TheVariants.{Groups}
use Rattle.ring_events.specs.declared.reply.Reply.TheVariants as reply
use Rattle.ring_table.specs.declared.entry.Entry.{Entry}
use Rattle.ring_table.specs.declared.entry.Entry.TheVariants.{Call}
use Rattle.ring_http.specs.Asking.{AddsPicture, AddsPictures, AddsQuestions}
use Rattle.ring_http.specs.declared.picture.GroupPicture.{GroupPicture}

-- A group was asked about, behind other questions.
pub record AddsWatched (session : ℕ) (name : List ℕ) (group : GroupPicture)
    (mine now : List (Entry Any)) : Type 0 where
  pub mid : List (Entry Any)
  pub earlier : AddsQuestions session mine mid
  pub last : AddsPicture session group mid now
  pub named : group.name ≡ name

-- All groups were asked for, and each was asked about.
pub record AddsAll (session : ℕ) (groups : List GroupPicture)
    (mine now : List (Entry Any)) : Type 0 where
  pub names : List (List ℕ)
  pub mid : List (Entry Any)
  pub listed : mid ≡ mine ++ Call session Groups (reply.Groups names) ∷ []
  pub each : AddsPictures session names groups mid now
