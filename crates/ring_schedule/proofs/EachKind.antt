-- Each kind of the sum is its algorithm: what the algorithm's traffic keeps is kept under its kind.
use Rattle.std.specs.Prelude.{◌≡◌, ℕ, [], length, replicate, refl}
use Rattle.std.proofs.Common.{◌∙◌, ap, sym}
use Rattle.ring_roster.specs.Ring.{greatest_of}
use Rattle.ring_node.specs.declared.charter.Charter.{Charter}
use Rattle.ring_chang.specs.Chang.{chang_fits, chang_table}
use Rattle.ring_chang.specs.declared.chang.Chang as chang
use Rattle.ring_hirschberg.specs.Hirschberg.{hirschberg_fits, hirschberg_table}
use Rattle.ring_hirschberg.specs.declared.hirschberg.Hirschberg as hirschberg
use Rattle.ring_lelann.specs.LeLann.{lelann_fits, lelann_table}
use Rattle.ring_lelann.specs.declared.lelann.LeLann as lelann
use Rattle.ring_peterson.specs.declared.peterson.Peterson as peterson
use Rattle.ring_peterson.specs.Peterson.{peterson_table}
use Rattle.ring_peterson.specs.Rounds.{peterson_fits, peterson_winner}
use Rattle.ring_hirschberg.specs.declared.hirschberg.HirschbergMsg.{HirschbergMsg}
use Rattle.ring_any.specs.Any.{any_fits, any_table, any_winner}
use Rattle.ring_any.specs.declared.any.Any.TheVariants.{LeLann, Chang, Hirschberg, Peterson}
use Rattle.ring_any.specs.Kinds.{chang_messages, chang_states, hirschberg_messages, hirschberg_states, lelann_messages, lelann_states, peterson_messages, peterson_states}
use Rattle.ring_any.specs.Variants.{Variant}
use Rattle.ring_world.specs.Worlds.{IsSoundWorld, Running, no_cuts}
use Rattle.ring_schedule.specs.Under.{charter_under, running_under}
use Rattle.ring_schedule.proofs.Passing.{begun_under, sound_under}
use Rattle.ring_schedule.proofs.Placing.{IsKindOf}

-- traffic that began under the charter of an algorithm is traffic that began under its kind's
pub begun_as : {E F WM M : Type 0} (messages : Variant WM M) (kind : F) (algorithm : E) (charter : Charter F) → charter.algorithm ≡ kind
    → (running : Running E M) → running ≡ record { charter = charter_under algorithm charter; journals = replicate (length charter.roster) []; cut = no_cuts (length charter.roster) }
    → running_under kind messages running ≡ record { charter = charter; journals = replicate (length charter.roster) []; cut = no_cuts (length charter.roster) }
begun_as {E} {F} {WM} {M} messages kind algorithm charter is running begun =
    rw begun
    (begun_under messages kind (charter_under algorithm charter)
    ∙ ap (λ (k : F). record { charter = charter_under k charter; journals = replicate (length charter.roster) []; cut = no_cuts (length charter.roster) }) (sym is))

-- LeLann's
pub lelann_kind : IsKindOf lelann_states lelann_messages (λ (_ : lelann.LeLann). lelann_table) any_table LeLann
lelann_kind = record { table_is = λ _. refl }

pub lelann_sound : (running : Running lelann.LeLann ℕ) → IsSoundWorld (λ (_ : lelann.LeLann). lelann_table) (λ (_ : lelann.LeLann). lelann_fits) (λ (_ : lelann.LeLann). greatest_of) running
    → IsSoundWorld any_table any_fits any_winner (running_under LeLann lelann_messages running)
lelann_sound running sound =
    sound_under lelann_states lelann_messages (λ (_ : lelann.LeLann). lelann_table) any_table LeLann lelann_kind (λ (_ : lelann.LeLann). lelann_fits) any_fits (λ (_ : lelann.LeLann). greatest_of) any_winner
    (λ _ ring i side k m fit. fit) (λ _ ring. refl) running sound

-- Chang's
pub chang_kind : IsKindOf chang_states chang_messages (λ (_ : chang.Chang). chang_table) any_table Chang
chang_kind = record { table_is = λ _. refl }

pub chang_sound : (running : Running chang.Chang ℕ) → IsSoundWorld (λ (_ : chang.Chang). chang_table) (λ (_ : chang.Chang). chang_fits) (λ (_ : chang.Chang). greatest_of) running
    → IsSoundWorld any_table any_fits any_winner (running_under Chang chang_messages running)
chang_sound running sound =
    sound_under chang_states chang_messages (λ (_ : chang.Chang). chang_table) any_table Chang chang_kind (λ (_ : chang.Chang). chang_fits) any_fits (λ (_ : chang.Chang). greatest_of) any_winner
    (λ _ ring i side k m fit. fit) (λ _ ring. refl) running sound

-- Hirschberg's
pub hirschberg_kind : IsKindOf hirschberg_states hirschberg_messages (λ (_ : hirschberg.Hirschberg). hirschberg_table) any_table Hirschberg
hirschberg_kind = record { table_is = λ _. refl }

pub hirschberg_sound : (running : Running hirschberg.Hirschberg HirschbergMsg) → IsSoundWorld (λ (_ : hirschberg.Hirschberg). hirschberg_table) (λ (_ : hirschberg.Hirschberg). hirschberg_fits) (λ (_ : hirschberg.Hirschberg). greatest_of) running
    → IsSoundWorld any_table any_fits any_winner (running_under Hirschberg hirschberg_messages running)
hirschberg_sound running sound =
    sound_under hirschberg_states hirschberg_messages (λ (_ : hirschberg.Hirschberg). hirschberg_table) any_table Hirschberg hirschberg_kind (λ (_ : hirschberg.Hirschberg). hirschberg_fits) any_fits (λ (_ : hirschberg.Hirschberg). greatest_of) any_winner
    (λ _ ring i side k m fit. rw (hirschberg_messages.of_put m) fit) (λ _ ring. refl) running sound

-- Peterson's
pub peterson_kind : IsKindOf peterson_states peterson_messages (λ (_ : peterson.Peterson). peterson_table) any_table Peterson
peterson_kind = record { table_is = λ _. refl }

pub peterson_sound : (running : Running peterson.Peterson ℕ) → IsSoundWorld (λ (_ : peterson.Peterson). peterson_table) (λ (_ : peterson.Peterson). peterson_fits) (λ (_ : peterson.Peterson). peterson_winner) running
    → IsSoundWorld any_table any_fits any_winner (running_under Peterson peterson_messages running)
peterson_sound running sound =
    sound_under peterson_states peterson_messages (λ (_ : peterson.Peterson). peterson_table) any_table Peterson peterson_kind (λ (_ : peterson.Peterson). peterson_fits) any_fits (λ (_ : peterson.Peterson). peterson_winner) any_winner
    (λ _ ring i side k m fit. fit) (λ _ ring. refl) running sound
