-- What the leave of a candidate adds.
use Rattle.std.proofs.Common.{◌≡◌, ℕ, Bool, false, List, [], ◌∷◌, ◌++◌, refl, ap, ◌∙◌, subst, append_assoc}
use Rattle.ring_any.specs.declared.any.Any.{Any}
use Rattle.ring_events.specs.declared.event.Command.TheVariants.{Leave, Who}
use Rattle.ring_events.specs.declared.reply.Reply.{Reply}
use Rattle.ring_table.specs.declared.entry.Entry.{Entry}
use Rattle.ring_table.specs.declared.entry.Entry.TheVariants.{Call}
use Rattle.ring_campaign.specs.Entries.{StartsIf, may_lead}
use Rattle.ring_campaign.specs.private.Telling.{AddsLeave}

-- no term is started for a member that may not lead the last one
pub leaves_alone : (session : ℕ) (group : List ℕ) (number : ℕ) (mine mid now : List (Entry Any)) (left told : Reply) → mid ≡ mine ++ Call session (Leave group number) left ∷ []
    → now ≡ mid ++ Call session (Who group number) told ∷ [] → false ≡ may_lead number told → AddsLeave session group number mine now
leaves_alone session group number mine mid now left told a b follows = record {
  ending = Call session (Leave group number) left ∷ Call session (Who group number) told ∷ [];
  gained = b ∙ ap (λ (l : List (Entry Any)). l ++ Call session (Who group number) told ∷ []) a ∙ append_assoc mine (Call session (Leave group number) left ∷ []) (Call session (Who group number) told ∷ []);
  leaves = record { left = left; told = told; again = []; whole = refl; starts = subst (λ (b : Bool). StartsIf session group number b []) follows refl };
}
