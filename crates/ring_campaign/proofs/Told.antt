-- The replies that a client gets, one after another, and the entries of a campaign put together.
use Rattle.std.proofs.Common.{◌≡◌, ◌⊎◌, ℕ, Bool, true, false, List, [], ◌∷◌, ◌++◌, Result, Ok, Err, refl, ap, sym, ◌∙◌, subst, append_assoc, append-nil, inl, inr}
use Rattle.std.specs.List.{flat_map, list_all}
use Rattle.std.specs.Result.{OnErr, OnOk}
use Rattle.std.proofs.lemmas.List.Concat.{flat_map-append}
use Rattle.std.proofs.lemmas.List.Elements.{All-nil}
use Rattle.std.proofs.lemmas.List.Folds.{list_all-append}
use Rattle.ring_id.specs.Identity.{number_of}
use Rattle.ring_id.specs.declared.refusal.Refusal.{Refusal}
use Rattle.ring_any.specs.Any.{any_greatest, any_two_way, any_winner}
use Rattle.ring_any.specs.declared.any.Any.{Any}
use Rattle.ring_events.specs.declared.event.Command.TheVariants.{Join, Start}
use Rattle.ring_events.specs.declared.reply.Reply.{Reply}
use Rattle.ring_events.specs.declared.reply.Reply.TheVariants.{Done, Refused}
use Rattle.ring_grammar.specs.Spelling.{reply_line}
use Rattle.ring_lines.specs.Ends.{CallsLead, Reading, Writing, Wrote, WroteFront, goes_on}
use Rattle.ring_lines.specs.Rounds.{text_of}
use Rattle.ring_lines.specs.declared.answers.Next.TheVariants as next
use Rattle.ring_lines.specs.declared.ends.WriteFailed.{WriteFailed}
use Rattle.ring_lines.specs.laws.Sequences.{Calls-append, wrote_next, wrote_none, wrote_then}
use Rattle.ring_table.specs.Accesses.{AnswersAtSeat, reply_of}
use Rattle.ring_table.specs.declared.access.Answer.{Answer}
use Rattle.ring_table.specs.declared.access.Answer.TheVariants.{Placed, Unplaced}
use Rattle.ring_table.specs.declared.entry.Entry.{Entry}
use Rattle.ring_table.specs.declared.entry.Entry.TheVariants.{Call}
use Rattle.ring_campaign.proofs.Looking.{looks_at, looks_past}
use Rattle.ring_campaign.specs.Campaigns.{Campaigns, Changes, Given, GivesFirst, HasCampaigned, IsOver, Joins, told_of}
use Rattle.ring_campaign.specs.Entries.{GainsCampaign, Looks}
use Rattle.ring_campaign.specs.declared.attending.Turn.{Turn}
use Rattle.ring_campaign.specs.declared.attending.Turn.TheVariants as turn
use Rattle.ring_campaign.specs.declared.opening.First.{First}
use Rattle.ring_campaign.specs.declared.opening.First.TheVariants as first
use Rattle.ring_campaign.specs.declared.candidate.Look.{Look}
use Rattle.ring_campaign.specs.declared.candidate.Look.TheVariants as look
use Rattle.ring_campaign.specs.private.Looking.{AddsLook, tells as replies_of}
use Rattle.ring_campaign.specs.private.Telling.{AddsLeave, Asked, Attends, GoesOn, HasTurned, IsWish, IsTurn, Puts, Tells, Turns, is_heard}

-- ---- the first line

-- a line that came has its content
pub asked_line : {S : Type 0} (reading : S → Reading → S → Type 0) (from to : S) (line : List ℕ) (first : First) → GivesFirst reading from (next.Line line) to → IsWish line first → Asked reading from first to
asked_line reading from to line first.NoLine gives wish = absurd wish
asked_line reading from to line first.NoJoin gives wish = (next.Line line, wish, gives)
asked_line reading from to line (first.Join wish) gives spelled = record { line = line; read = gives; spelled = spelled }

-- ---- one answer after another

-- a text was written or a prefix of it, whatever the writer answered
pub given_either : {V : Type 0} (writing : V → Writing → V → Type 0) (from : V) (text : List ℕ) (to : V) (answer : Result (Unit {0}) WriteFailed) → OnOk answer (Wrote writing from text to) → OnErr answer (WroteFront writing from text to)
    → Given writing from text to
given_either writing from text to (Ok done) ok err = inl ok
given_either writing from text to (Err failed) ok err = inr err

-- a turn after which the campaign is over is no other
pub is_over : (result : Turn) → (result ≡ turn.Over) ⊎ (result ≡ turn.Failed) → result ≡ turn.On → ⊥
is_over result (inl over) on = let never : turn.Over ≡ turn.On = sym over ∙ on in cc
is_over result (inr failed) on = let never : turn.Failed ≡ turn.On = sym failed ∙ on in cc

-- the answers that differ from the one before, in two lists
changes_then : (a b c : Reply) (first second told more : List Reply) → Changes a first told b → Changes b second more c → Changes a (first ++ second) (told ++ more) c
changes_then a b c [] second told more x y =
    subst (λ (l : List Reply). Changes a second (l ++ more) c) (sym x.0) (subst (λ (r : Reply). Changes r second more c) x.1 y)
changes_then a b c (answer ∷ first) second told more (inl x) y = inl (x.0, changes_then a b c first second told more x.1 y)
changes_then a b c (answer ∷ first) second told more (inr x) y =
    inr (x.0, x.1 ++ more, ap (λ (l : List Reply). l ++ more) x.2, changes_then answer b c first second x.1 more x.3 y)

-- the text of two lists
text-append : (told more : List Reply) → text_of reply_line (told ++ more) ≡ text_of reply_line told ++ text_of reply_line more
text-append told more = flat_map-append reply_line told more

-- the text of one reply
pub one_text : (answer : Reply) → text_of reply_line (answer ∷ []) ≡ reply_line answer
one_text answer = append-nil (reply_line answer)

-- one read call more, after which another one may follow
pub calls_more : {S : Type 0} (reading : S → Reading → S → Type 0) (reader : S) (calls : List Reading) (call : Reading) (mid reader_now : S) → CallsLead reading reader calls mid → list_all goes_on calls ≡ true
    → reading mid call reader_now → goes_on call ≡ true → CallsLead reading reader (calls ++ call ∷ []) reader_now × (list_all goes_on (calls ++ call ∷ []) ≡ true)
calls_more reading reader calls call mid reader_now led went_on step on =
    (Calls-append reading reader mid reader_now calls (call ∷ []) led (reader_now, step, refl), list_all-append goes_on calls (call ∷ []) ∙ rw (went_on, on) refl)

module _ {V : Type 0} (writing : V → Writing → V → Type 0) where
  -- no reply follows from no answer
  pub tells_none : (last : Reply) (from : V) → Tells writing last from [] true last from
  tells_none last from = record { told = []; changes = (refl, refl); puts = wrote_none writing from }

  -- no reply follows from an answer that equals the last one
  pub tells_again : (last : Reply) (from : V) (answer : Reply) → answer ≡ last → Tells writing last from (answer ∷ []) true last from
  tells_again last from answer same = record { told = []; changes = inl (same, (refl, refl)); puts = wrote_none writing from }

  -- another answer is a reply
  pub tells_one : (last : Reply) (from to : V) (answer : Reply) (all : Bool) → (answer ≡ last → ⊥) → Puts writing from (reply_line answer) all to → Tells writing last from (answer ∷ []) all answer to
  tells_one last from to answer all other puts = record {
    told = answer ∷ [];
    changes = inr (other, [], refl, (refl, refl));
    puts = subst (λ (text : List ℕ). Puts writing from text all to) (sym (one_text answer)) puts;
  }

  -- one text and then another, or a prefix of it
  puts_then : (from mid to : V) (first second : List ℕ) (all : Bool) → Wrote writing from first mid → Puts writing mid second all to → Puts writing from (first ++ second) all to
  puts_then from mid to first second true a b = wrote_then a b
  puts_then from mid to first second false a b = wrote_next a b

  -- the replies to answers, and then to others
  tells_then : (a b c : Reply) (from mid to : V) (answers others : List Reply) (all : Bool) → Tells writing a from answers true b mid → Tells writing b mid others all c to → Tells writing a from (answers ++ others) all c to
  tells_then a b c from mid to answers others all x y = record {
    told = x.told ++ y.told;
    changes = changes_then a b c answers others x.told y.told x.changes y.changes;
    puts = subst (λ (text : List ℕ). Puts writing from text all to) (sym (text-append x.told y.told)) (puts_then from mid to (text_of reply_line x.told) (text_of reply_line y.told) all x.puts y.puts);
  }

  -- a turn whose reply was not written
  pub turns_failed : (session : ℕ) (group : List ℕ) (number : ℕ) (old new : Bool) (last last_now : Reply) (mine mid now : List (Entry Any)) (from to : V) (result : Look) → AddsLook session group number old mine result new mid → now ≡ mid
      → Tells writing last from (replies_of session group number result) false last_now to → Turns writing session group number old last mine from turn.Failed new last_now now to
  turns_failed session group number old new last last_now mine mid now from to result looks same got = record {
    added = looks.added;
    gained = same ∙ looks.gained;
    at = λ during is. looks_past session group number result new (during ++ looks.added) (looks.at during is);
    tells = subst (λ (answers : List Reply). Tells writing last from answers false last_now to) (sym looks.told) got;
    is = tt;
  }

  -- a turn after which the campaign is over
  pub turns_over : (session : ℕ) (group : List ℕ) (number : ℕ) (old new : Bool) (last last_now : Reply) (mine mid now : List (Entry Any)) (from to : V) (refusal : Refusal) → AddsLook session group number old mine (look.Last refusal) new mid
      → now ≡ mid → Tells writing last from (Refused refusal ∷ []) true last_now to → Turns writing session group number old last mine from turn.Over new last_now now to
  turns_over session group number old new last last_now mine mid now from to refusal looks same got = record {
    added = looks.added;
    gained = same ∙ looks.gained;
    at = looks.at;
    tells = subst (λ (answers : List Reply). Tells writing last from answers true last_now to) (sym looks.told) got;
    is = record { before = looks.is.0; session = session; group = group; refusal = refusal; whole = looks.is.1 };
  }

  module _ (session : ℕ) (group : List ℕ) (number : ℕ) (mine : List (Entry Any)) (from : V) where
    -- before the first turn
    pub turned_none : HasTurned writing session group number mine from turn.On false Done mine from
    turned_none = record { during = []; gained = sym (append-nil mine); at = All-nil _; tells = tells_none Done from }

    -- one turn more
    pub turned_more : (old new : Bool) (last last_now : Reply) (mid now : List (Entry Any)) (between to : V) (result : Turn) → HasTurned writing session group number mine from turn.On old last mid between
        → Turns writing session group number old last mid between result new last_now now to → HasTurned writing session group number mine from result new last_now now to
    turned_more old new last last_now mid now between to result a b = record {
      during = a.during ++ b.added;
      gained = b.gained ∙ ap (λ (l : List (Entry Any)). l ++ b.added) a.gained ∙ append_assoc mine a.during b.added;
      at = b.at a.during a.at;
      tells = subst
          (λ (answers : List Reply). Tells writing Done from answers (is_heard result) last_now to)
          (sym (flat_map-append told_of a.during b.added))
          (tells_then Done last last_now from between to (flat_map told_of a.during) (flat_map told_of b.added) (is_heard result) a.tells b.tells);
    }

    -- after any turn, the entries since the join are those of a campaign
    looks_after : (result : Turn) (new : Bool) (during : List (Entry Any)) → GoesOn session group number result new during → Looks session group number during
    looks_after turn.On new during at = looks_at session group number new during at
    looks_after turn.Over new during looks = looks
    looks_after turn.Failed new during looks = looks

    module _ {S : Type 0} (reading : S → Reading → S → Type 0) (reader : S) where
      -- no read call may follow the last one
      pub attends_ended : (follows : Bool) (last : Reply) (now : List (Entry Any)) (to : V) (calls : List Reading) (call : Reading) (mid reader_now : S) → HasTurned writing session group number mine from turn.On follows last now to
          → CallsLead reading reader calls mid → list_all goes_on calls ≡ true → reading mid call reader_now → goes_on call ≡ false → Attends reading writing session group number mine reader from now reader_now to
      attends_ended follows last now to calls call mid reader_now a led went_on step ends = record {
        during = a.during;
        gained = a.gained;
        looks = looks_at session group number follows a.during a.at;
        calls = calls ++ call ∷ [];
        reads = Calls-append reading reader mid reader_now calls (call ∷ []) led (reader_now, step, refl);
        told = a.tells.told;
        last = last;
        changes = a.tells.changes;
        over = inl (a.tells.puts, record { last = call; is = record { before = calls; whole = refl; went_on = went_on }; ends = ends });
      }

      -- the campaign is over after a turn
      pub attends_turned : (old new : Bool) (last last_now : Reply) (mid now : List (Entry Any)) (between to : V) (result : Turn) (calls : List Reading) (reader_now : S)
          → HasTurned writing session group number mine from turn.On old last mid between → Turns writing session group number old last mid between result new last_now now to → (result ≡ turn.On → ⊥)
          → CallsLead reading reader calls reader_now → list_all goes_on calls ≡ true → Attends reading writing session group number mine reader from now reader_now to
      unfolding turned_more
      attends_turned old new last last_now mid now between to result calls reader_now a b other led went_on =
          let all = turned_more old new last last_now mid now between to result a b in
          record {
            during = a.during ++ b.added;
            gained = all.gained;
            looks = looks_after result new (a.during ++ b.added) all.at;
            calls = calls;
            reads = led;
            told = all.tells.told;
            last = last_now;
            changes = all.tells.changes;
            over = go result other all.tells.puts b.is;
          }
        where
          go : (r : Turn) → (r ≡ turn.On → ⊥) → Puts writing from (text_of reply_line (turned_more old new last last_now mid now between to result a b).tells.told) (is_heard r) to → IsTurn r b.added
              → IsOver writing calls (a.during ++ b.added) from (text_of reply_line (turned_more old new last last_now mid now between to result a b).tells.told) to
          go turn.On other_turn puts is = absurd (other_turn refl)
          go turn.Failed other_turn puts is = inr (inl (puts, went_on))
          go turn.Over other_turn puts is =
              inr
              (inr (
                puts,
                went_on,
                record {
                  before = a.during ++ is.before;
                  session = is.session;
                  group = is.group;
                  refusal = is.refusal;
                  whole = ap (λ (l : List (Entry Any)). a.during ++ l) is.whole ∙ sym (append_assoc a.during is.before (Call is.session (Start is.group) (Refused is.refusal) ∷ []));
                },
              ))

-- ---- the join

-- a join that was done is the entry that was added
pub joined : (session : ℕ) (group : List ℕ) (node : ℕ) (mine now : List (Entry Any)) (answer : Answer) → AnswersAtSeat any_winner any_two_way any_greatest session (Join group node) mine answer now → reply_of answer ≡ Done
    → now ≡ mine ++ Call session (Join group node) Done ∷ []
joined session group node mine now (Placed answer place) a done = subst (λ (r : Reply). now ≡ mine ++ Call session (Join group node) r ∷ []) done a.1
joined session group node mine now (Unplaced refusal) a done = let never : Refused refusal ≡ Done = done in cc

module _ {S V : Type 0} (reading : S → Reading → S → Type 0) (writing : V → Writing → V → Type 0) (session : ℕ) (group : List ℕ) (node : ℕ) (mine : List (Entry Any)) (reader : S) (writer : V) where
  -- all replies, with the join's own before them
  over_told : (calls : List Reading) (during : List (Entry Any)) (mid to : V) (text : List ℕ) → Wrote writing writer (reply_line Done) mid → IsOver writing calls during mid text to → IsOver writing calls during writer (reply_line Done ++ text) to
  over_told calls during mid to text ok (inl a) = inl (wrote_then ok a.0, a.1)
  over_told calls during mid to text ok (inr (inl a)) = inr (inl (wrote_next ok a.0, a.1))
  over_told calls during mid to text ok (inr (inr a)) = inr (inr (wrote_then ok a.0, a.1, a.2))

  -- a campaign whose client got the reply to its join
  pub campaigned : (joined mid now : List (Entry Any)) (reader_now : S) (told to : V) → joined ≡ mine ++ Call session (Join group node) Done ∷ [] → Wrote writing writer (reply_line Done) told
      → Attends reading writing session group (number_of node) joined reader told mid reader_now to → AddsLeave session group (number_of node) mid now → HasCampaigned reading writing session group node mine reader writer now reader_now to
  campaigned joined mid now reader_now told to join ok attends leaves = record {
    during = attends.during;
    ending = leaves.ending;
    gained =
        leaves.gained
        ∙ ap (λ (l : List (Entry Any)). l ++ leaves.ending) (attends.gained ∙ ap (λ (l : List (Entry Any)). l ++ attends.during) join ∙ append_assoc mine (Call session (Join group node) Done ∷ []) attends.during)
        ∙ append_assoc mine (Call session (Join group node) Done ∷ attends.during) leaves.ending;
    looks = attends.looks;
    leaves = leaves.leaves;
    calls = attends.calls;
    reads = attends.reads;
    told = attends.told;
    last = attends.last;
    changes = attends.changes;
    over = over_told attends.calls attends.during told to (text_of reply_line attends.told) ok attends.over;
  }

  -- a campaign whose client did not get that reply
  pub campaigned_unheard : (joined now : List (Entry Any)) (to : V) → joined ≡ mine ++ Call session (Join group node) Done ∷ [] → WroteFront writing writer (reply_line Done) to
      → AddsLeave session group (number_of node) joined now → HasCampaigned reading writing session group node mine reader writer now reader to
  campaigned_unheard joined now to join front leaves = record {
    during = [];
    ending = leaves.ending;
    gained = leaves.gained ∙ ap (λ (l : List (Entry Any)). l ++ leaves.ending) join ∙ append_assoc mine (Call session (Join group node) Done ∷ []) leaves.ending;
    looks = inl (All-nil _);
    leaves = leaves.leaves;
    calls = [];
    reads = refl;
    told = [];
    last = Done;
    changes = (refl, refl);
    over = inr (inl (subst (λ (text : List ℕ). WroteFront writing writer text to) (sym (one_text Done)) front, refl));
  }

-- ---- the entries of the seat

-- a join that was not done adds its refusal, or nothing
turned_gains : (session : ℕ) (group : List ℕ) (node : ℕ) (mine now : List (Entry Any)) (answer : Answer) → AnswersAtSeat any_winner any_two_way any_greatest session (Join group node) mine answer now → (reply_of answer ≡ Done → ⊥)
    → GainsCampaign session mine now
turned_gains session group node mine now (Placed answer place) a refused = inr (inl (record { group = group; node = node; answer = answer; refused = refused; gained = a.1 }))
turned_gains session group node mine now (Unplaced refusal) a refused = inl a.1

-- whatever was read and written, the seat gained the entries of a campaign
pub campaign_gains : {S V : Type 0} (reading : S → Reading → S → Type 0) (writing : V → Writing → V → Type 0) (session : ℕ) (mine now : List (Entry Any)) (reader reader_now : S) (writer writer_now : V) (refused : Bool)
    → Campaigns reading writing session mine reader writer now reader_now writer_now refused → GainsCampaign session mine now
campaign_gains reading writing session mine now reader reader_now writer writer_now true none = inl none.same
campaign_gains reading writing session mine now reader reader_now writer writer_now false (inl none) = inl none.same
campaign_gains reading writing session mine now reader reader_now writer writer_now false (inr (inl none)) = inl none.same
campaign_gains reading writing session mine now reader reader_now writer writer_now false (inr (inr asked)) = go asked.joins
  where
    go : Joins reading writing session asked.group asked.node mine asked.asked writer now reader_now writer_now → GainsCampaign session mine now
    go (inl turned) = turned_gains session asked.group asked.node mine now turned.answer turned.answered turned.refused
    go (inr joined) =
        inr
        (inr
        (record {
          group = asked.group;
          node = asked.node;
          during = joined.during;
          ending = joined.ending;
          gained = joined.gained;
          looks = joined.looks;
          leaves = joined.leaves;
        }))
