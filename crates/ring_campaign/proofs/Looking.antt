-- What a candidate's questions add up to.
use Rattle.std.proofs.Common.{◌≡◌, ℕ, Bool, true, false, List, [], ◌∷◌, ◌++◌, Option, None, Some, All, refl, ap, sym, ◌∙◌, subst, append_assoc, append-nil, inl, inr}
use Rattle.std.specs.List.{flat_map}
use Rattle.std.proofs.lemmas.List.Concat.{flat_map-append}
use Rattle.std.proofs.lemmas.List.Elements.{All-append, All-cons, All-nil}
use Rattle.ring_id.specs.Identity.{number_of}
use Rattle.ring_id.specs.declared.refusal.Refusal.{Refusal}
use Rattle.ring_any.specs.declared.any.Any.{Any}
use Rattle.ring_events.specs.declared.event.Command.TheVariants.{Members, Start, Terms, Who}
use Rattle.ring_events.specs.declared.reply.Reply.{Reply}
use Rattle.ring_events.specs.declared.reply.Reply.TheVariants as reply
use Rattle.ring_table.specs.declared.entry.Entry.{Entry}
use Rattle.ring_table.specs.declared.entry.Entry.TheVariants.{Call}
use Rattle.ring_campaign.specs.Campaigns.{told_of}
use Rattle.ring_campaign.specs.Entries.{FindNobody, HasLeader, HasMember, HasNobody, IsFirst, IsQuestion, IsQuiet, Looks, StartsOnce}
use Rattle.ring_campaign.specs.declared.candidate.Look.{Look}
use Rattle.ring_campaign.specs.declared.candidate.Look.TheVariants as look
use Rattle.ring_campaign.specs.declared.finding.Found.{Found}
use Rattle.ring_campaign.specs.declared.finding.Found.TheVariants as found
use Rattle.ring_campaign.specs.private.Looking.{AddsLeader, AddsLook, AddsMembers, AddsQuestions, AddsStart, AddsWho, Finds, IsAfter, IsAt, Never, Seeks, SeeksOn, Starts, StartsTerm}

module _ (session : ℕ) (group : List ℕ) (number : ℕ) where
  -- ---- one question after another

  -- one question
  one_quiet : (entry : Entry Any) → IsQuiet session group number entry → All (IsQuiet session group number) (entry ∷ [])
  one_quiet entry is = All-cons (IsQuiet session group number) entry [] is (All-nil (IsQuiet session group number))

  -- none was added
  pub adds_none : (mine now : List (Entry Any)) → now ≡ mine → AddsQuestions session group number mine now
  adds_none mine now same = record { added = []; gained = same ∙ sym (append-nil mine); quiet = All-nil (IsQuiet session group number); silent = refl }

  -- the leaders were asked for
  pub adds_terms : (mine now : List (Entry Any)) (answer : Reply) → now ≡ mine ++ Call session (Terms group) answer ∷ [] → AddsQuestions session group number mine now
  adds_terms mine now answer gained = record {
    added = Call session (Terms group) answer ∷ [];
    gained = gained;
    quiet = one_quiet (Call session (Terms group) answer) (refl, refl);
    silent = refl;
  }

  -- the members were asked for
  pub adds_members : (mine now : List (Entry Any)) (answer : Reply) → now ≡ mine ++ Call session (Members group) answer ∷ [] → AddsQuestions session group number mine now
  adds_members mine now answer gained = record {
    added = Call session (Members group) answer ∷ [];
    gained = gained;
    quiet = one_quiet (Call session (Members group) answer) (refl, refl);
    silent = refl;
  }

  -- both were
  both_quiet : (terms members : Reply) → All (IsQuiet session group number) (Call session (Terms group) terms ∷ Call session (Members group) members ∷ [])
  both_quiet terms members = All-cons (IsQuiet session group number) (Call session (Terms group) terms) (Call session (Members group) members ∷ []) (refl, refl) (one_quiet (Call session (Members group) members) (refl, refl))

  -- questions and then others
  pub adds_more : (mine mid now : List (Entry Any)) → AddsQuestions session group number mine mid → AddsQuestions session group number mid now → AddsQuestions session group number mine now
  adds_more mine mid now a b = record {
    added = a.added ++ b.added;
    gained = b.gained ∙ ap (λ (l : List (Entry Any)). l ++ b.added) a.gained ∙ append_assoc mine a.added b.added;
    quiet = All-append (IsQuiet session group number) a.added b.added a.quiet b.quiet;
    silent = flat_map-append told_of a.added b.added ∙ rw (a.silent, b.silent) refl;
  }

  -- ---- whether there is a leader to follow

  -- what a start becomes, where the leaders that were asked for say that there is nobody to follow
  finds_nobody : (mine mid now : List (Entry Any)) (result : Found) (told : Reply) → HasNobody session group number (Call session (Terms group) told ∷ [])
      → mid ≡ mine ++ Call session (Terms group) told ∷ [] → Starts session group number mid result now → Finds session group number mine result now
  finds_nobody mine mid now result told nobody asked starts = go result starts
    where
      behind : (answer : Reply) → now ≡ mid ++ Call session (Start group) answer ∷ [] → AddsStart session group number mine answer now
      behind answer gained = record {
        asked = Call session (Terms group) told ∷ [];
        gained = gained ∙ ap (λ (l : List (Entry Any)). l ++ Call session (Start group) answer ∷ []) asked ∙ append_assoc mine (Call session (Terms group) told ∷ []) (Call session (Start group) answer ∷ []);
        nobody = (one_quiet (Call session (Terms group) told) (refl, refl), nobody);
        silent = refl;
      }

      go : (f : Found) → Starts session group number mid f now → Finds session group number mine f now
      go found.Unknown same = adds_terms mine now told (same ∙ asked)
      go found.Follows s = inr (s.0, behind s.0 s.1, s.2)
      go (found.Refused refusal) gained = behind (reply.Refused refusal) gained

  -- no term has begun
  pub finds_no_term : (mine mid now : List (Entry Any)) (result : Found) → mid ≡ mine ++ Call session (Terms group) (reply.Terms []) ∷ [] → Starts session group number mid result now → Finds session group number mine result now
  finds_no_term mine mid now result asked starts = finds_nobody mine mid now result (reply.Terms []) (inl (record { earlier = []; whole = refl })) asked starts

  -- the number itself leads the last term
  pub finds_old_term : (mine mid now : List (Entry Any)) (result : Found) (leaders : List (Option ℕ)) (leader : ℕ) → number_of leader ≡ number
      → mid ≡ mine ++ Call session (Terms group) (reply.Terms (leaders ++ Some leader ∷ [])) ∷ [] → Starts session group number mid result now → Finds session group number mine result now
  finds_old_term mine mid now result leaders leader own asked starts =
      finds_nobody mine mid now result (reply.Terms (leaders ++ Some leader ∷ []))
      (inr (inr (inl (record { earlier = []; leaders = leaders; leader = leader; whole = refl; own = own })))) asked starts

  -- what the members say, behind what the leaders of the terms said
  finds_by : (mine mid now : List (Entry Any)) (result : Found) (terms : Reply) (There Gone : List ℕ → Type 0)
      → ((members : List ℕ) → There members → HasLeader session group number true (Call session (Terms group) terms ∷ Call session (Members group) (reply.Members members) ∷ []))
      → ((members : List ℕ) → Gone members → HasNobody session group number (Call session (Terms group) terms ∷ Call session (Members group) (reply.Members members) ∷ []))
      → mid ≡ mine ++ Call session (Terms group) terms ∷ [] → Seeks session group number There Gone mid result now → Finds session group number mine result now
  unfolding adds_more adds_terms adds_members
  finds_by mine mid now result terms There Gone leads nobody asked seeks = go result seeks
    where
      both : AddsQuestions session group number mid now → AddsQuestions session group number mine now
      both later = adds_more mine mid now (adds_terms mine mid terms asked) later

      follows : AddsMembers session group number There mid now → AddsLeader session group number mine now
      follows there = record {
        asked = both (adds_members mid now (reply.Members there.members) there.gained);
        leader = leads there.members there.such;
      }

      behind : (answer : Reply) → SeeksOn session group number Gone mid answer now → AddsStart session group number mine answer now
      behind answer on =
          let members : Reply = reply.Members on.asked.members in
          let start : List (Entry Any) = Call session (Start group) answer ∷ [] in
          let one : List (Entry Any) = Call session (Terms group) terms ∷ [] in
          let two : List (Entry Any) = Call session (Members group) members ∷ [] in
          record {
            asked = Call session (Terms group) terms ∷ Call session (Members group) members ∷ [];
            gained =
                on.gained
                ∙ ap (λ (l : List (Entry Any)). l ++ start) (on.asked.gained ∙ ap (λ (l : List (Entry Any)). l ++ two) asked)
                ∙ append_assoc (mine ++ one) two start
                ∙ append_assoc mine one (two ++ start);
            nobody = (both_quiet terms members, nobody on.asked.members on.asked.such);
            silent = refl;
          }

      go : (f : Found) → Seeks session group number There Gone mid f now → Finds session group number mine f now
      go found.Unknown later = both later
      go found.Follows (inl there) = inl (follows there)
      go found.Follows (inr s) = inr (s.0, behind s.0 s.1, s.2)
      go (found.Refused refusal) on = behind (reply.Refused refusal) on

  -- what is known of another leader
  pub finds_leader : (mine mid now : List (Entry Any)) (result : Found) (leaders : List (Option ℕ)) (leader : ℕ) → (number_of leader ≡ number → ⊥)
      → mid ≡ mine ++ Call session (Terms group) (reply.Terms (leaders ++ Some leader ∷ [])) ∷ []
      → Seeks session group number (HasMember leader true) (HasMember leader false) mid result now → Finds session group number mine result now
  finds_leader mine mid now result leaders leader other asked seeks =
      finds_by mine mid now result (reply.Terms (leaders ++ Some leader ∷ [])) (HasMember leader true) (HasMember leader false)
      (λ members is. has true members is) (λ members is. inr (inl (has false members is))) asked seeks
    where
      has : (there : Bool) (members : List ℕ) → HasMember leader there members
          → HasLeader session group number there (Call session (Terms group) (reply.Terms (leaders ++ Some leader ∷ [])) ∷ Call session (Members group) (reply.Members members) ∷ [])
      has there members is = record { earlier = []; leaders = leaders; leader = leader; members = members; whole = refl; is = is; other = other }

  -- what is known of an undecided term
  pub finds_first : (mine mid now : List (Entry Any)) (result : Found) (leaders : List (Option ℕ))
      → mid ≡ mine ++ Call session (Terms group) (reply.Terms (leaders ++ None ∷ [])) ∷ []
      → Seeks session group number Never (IsFirst number) mid result now → Finds session group number mine result now
  finds_first mine mid now result leaders asked seeks =
      finds_by mine mid now result (reply.Terms (leaders ++ None ∷ [])) Never (IsFirst number)
      (λ members is. absurd is)
      (λ members first. inr (inr (inr (record { earlier = []; leaders = leaders; members = members; whole = refl; first = first }))))
      asked seeks

  -- a start, where the members say that there is nobody to follow
  pub seeks_start : (mine mid now : List (Entry Any)) (result : Found) (There Gone : List ℕ → Type 0) (members : List ℕ) → Gone members
      → mid ≡ mine ++ Call session (Members group) (reply.Members members) ∷ [] → Starts session group number mid result now → Seeks session group number There Gone mine result now
  seeks_start mine mid now result There Gone members gone asked starts = go result starts
    where
      behind : (answer : Reply) → now ≡ mid ++ Call session (Start group) answer ∷ [] → SeeksOn session group number Gone mine answer now
      behind answer gained = record { between = mid; asked = record { members = members; such = gone; gained = asked }; gained = gained }

      go : (f : Found) → Starts session group number mid f now → Seeks session group number There Gone mine f now
      go found.Unknown same = adds_members mine now (reply.Members members) (same ∙ asked)
      go found.Follows s = inr (s.0, behind s.0 s.1, s.2)
      go (found.Refused refusal) gained = behind (reply.Refused refusal) gained

  -- ---- looks

  -- questions of which nothing is told, behind others
  more_quiet : (during added : List (Entry Any)) → All (IsQuiet session group number) added → All (IsQuiet session group number) during → All (IsQuiet session group number) (during ++ added)
  more_quiet during added more all = All-append (IsQuiet session group number) during added all more

  -- the member's own question
  one_question : (answer : Reply) → All (IsQuestion session group number) (Call session (Who group number) answer ∷ [])
  one_question answer = All-cons (IsQuestion session group number) (Call session (Who group number) answer) [] (refl, refl, refl) (All-nil (IsQuestion session group number))

  -- questions behind those that found a leader, or behind a start
  more_questions : (during added : List (Entry Any)) → All (IsQuestion session group number) added → IsAt session group number true during → IsAt session group number true (during ++ added)
  more_questions during added more (inl follows) =
      inl
      (record {
        asked = follows.asked;
        later = follows.later ++ added;
        whole = ap (λ (l : List (Entry Any)). l ++ added) follows.whole ∙ append_assoc follows.asked follows.later added;
        quiet = follows.quiet;
        leader = follows.leader;
        questions = All-append (IsQuestion session group number) follows.later added follows.questions more;
      })
  more_questions during added more (inr term) =
      let once = term.once in
      inr
      (record {
        once = record {
          asked = once.asked;
          answer = once.answer;
          later = once.later ++ added;
          whole = ap (λ (l : List (Entry Any)). l ++ added) once.whole ∙ append_assoc once.asked (Call session (Start group) once.answer ∷ once.later) added;
          nobody = once.nobody;
          questions = All-append (IsQuestion session group number) once.later added once.questions more;
          final = λ refusal is. absurd (term.begun refusal is);
        };
        begun = term.begun;
      })

  -- what was found of a leader, behind earlier questions
  more_leader : (there : Bool) (during asked : List (Entry Any)) → HasLeader session group number there asked → HasLeader session group number there (during ++ asked)
  more_leader there during asked has = record {
    earlier = during ++ has.earlier;
    leaders = has.leaders;
    leader = has.leader;
    members = has.members;
    whole = ap (λ (l : List (Entry Any)). during ++ l) has.whole ∙ sym (append_assoc during has.earlier (Call session (Terms group) (reply.Terms (has.leaders ++ Some has.leader ∷ [])) ∷ Call session (Members group) (reply.Members has.members) ∷ []));
    is = has.is;
    other = has.other;
  }

  -- and that there is nobody to follow
  more_nobody : (during asked : List (Entry Any)) → HasNobody session group number asked → HasNobody session group number (during ++ asked)
  more_nobody during asked (inl none) =
      inl (record { earlier = during ++ none.earlier; whole = ap (λ (l : List (Entry Any)). during ++ l) none.whole ∙ sym (append_assoc during none.earlier (Call session (Terms group) (reply.Terms []) ∷ [])) })
  more_nobody during asked (inr (inl lost)) = inr (inl (more_leader false during asked lost))
  more_nobody during asked (inr (inr (inl old))) =
      inr
      (inr
      (inl
      (record {
        earlier = during ++ old.earlier;
        leaders = old.leaders;
        leader = old.leader;
        whole = ap (λ (l : List (Entry Any)). during ++ l) old.whole ∙ sym (append_assoc during old.earlier (Call session (Terms group) (reply.Terms (old.leaders ++ Some old.leader ∷ [])) ∷ []));
        own = old.own;
      })))
  more_nobody during asked (inr (inr (inr left))) =
      inr
      (inr
      (inr
      (record {
        earlier = during ++ left.earlier;
        leaders = left.leaders;
        members = left.members;
        whole = ap (λ (l : List (Entry Any)). during ++ l) left.whole ∙ sym (append_assoc during left.earlier (Call session (Terms group) (reply.Terms (left.leaders ++ None ∷ [])) ∷ Call session (Members group) (reply.Members left.members) ∷ []));
        first = left.first;
      })))

  -- a start behind questions that found nobody
  start_behind : (during asked : List (Entry Any)) (answer : Reply) → FindNobody session group number asked → All (IsQuiet session group number) during → StartsOnce session group number (during ++ (asked ++ Call session (Start group) answer ∷ []))
  start_behind during asked answer nobody all = record {
    asked = during ++ asked;
    answer = answer;
    later = [];
    whole = sym (append_assoc during asked (Call session (Start group) answer ∷ []));
    nobody = (more_quiet during asked nobody.0 all, more_nobody during asked nobody.1);
    questions = All-nil (IsQuestion session group number);
    final = λ refusal is. refl;
  }

  -- if nothing is told after a start, the start was not refused
  not_refused : (answer : Reply) → told_of (Call session (Start group) answer) ≡ [] → (refusal : Refusal) → answer ≡ reply.Refused refusal → ⊥
  not_refused answer silent refusal is =
      let never : reply.Refused refusal ∷ [] ≡ [] = subst (λ (r : Reply). told_of (Call session (Start group) r) ≡ []) is silent in cc

  -- such a start behind questions that found nobody
  term_behind : (during asked : List (Entry Any)) (answer : Reply) → told_of (Call session (Start group) answer) ≡ [] → FindNobody session group number asked → All (IsQuiet session group number) during
      → IsAt session group number true (during ++ (asked ++ Call session (Start group) answer ∷ []))
  unfolding start_behind
  term_behind during asked answer silent nobody all = inr (record { once = start_behind during asked answer nobody all; begun = not_refused answer silent })

  -- the entries since the join are those of a campaign
  pub looks_at : (follows : Bool) (during : List (Entry Any)) → IsAt session group number follows during → Looks session group number during
  looks_at false during all = inl all
  looks_at true during (inl follows) = inr (inl follows)
  looks_at true during (inr term) = inr (inr term.once)

  -- so they are after any look
  pub looks_past : (result : Look) (follows : Bool) (during : List (Entry Any)) → IsAfter session group number result follows during → Looks session group number during
  looks_past look.Nothing follows during at = looks_at follows during at
  looks_past (look.Tell answer) follows during at = looks_at follows during at
  looks_past (look.Last refusal) follows during looks = looks

  -- a leader to follow behind questions
  leader_behind : (during asked : List (Entry Any)) → All (IsQuiet session group number) asked → HasLeader session group number true asked → All (IsQuiet session group number) during → IsAt session group number true (during ++ asked)
  leader_behind during asked quiet leader all =
      inl
      (record {
        asked = during ++ asked;
        later = [];
        whole = sym (append-nil (during ++ asked));
        quiet = more_quiet during asked quiet all;
        leader = more_leader true during asked leader;
        questions = All-nil (IsQuestion session group number);
      })

  -- the member's own question, once there is a leader to follow or a term was started
  pub looks_up : (mine now : List (Entry Any)) (result : Look) → AddsWho session group number mine result now → AddsLook session group number true mine result true now
  looks_up mine now look.Nothing same = record {
    added = [];
    gained = same ∙ sym (append-nil mine);
    at = λ during is. more_questions during [] (All-nil (IsQuestion session group number)) is;
    told = refl;
    is = tt;
  }
  looks_up mine now (look.Tell answer) asks = record {
    added = Call session (Who group number) answer ∷ [];
    gained = asks.0;
    at = λ during is. more_questions during (Call session (Who group number) answer ∷ []) (one_question answer) is;
    told = refl;
    is = asks.1;
  }
  looks_up mine now (look.Last refusal) asks = absurd asks

  -- the same behind a step that tells nothing
  looks_then : (mine between now : List (Entry Any)) (result : Look) (added : List (Entry Any)) → between ≡ mine ++ added → flat_map told_of added ≡ []
      → ((during : List (Entry Any)) → All (IsQuiet session group number) during → IsAt session group number true (during ++ added)) → AddsWho session group number between result now
      → AddsLook session group number false mine result true now
  looks_then mine between now look.Nothing added gained silent at asks = record { added = added; gained = asks ∙ gained; at = at; told = silent; is = tt }
  looks_then mine between now (look.Tell answer) added gained silent at asks =
      let who : List (Entry Any) = Call session (Who group number) answer ∷ [] in
      record {
        added = added ++ who;
        gained = asks.0 ∙ ap (λ (l : List (Entry Any)). l ++ who) gained ∙ append_assoc mine added who;
        at = λ during is. subst (IsAt session group number true) (append_assoc during added who) (more_questions (during ++ added) who (one_question answer) (at during is));
        told = flat_map-append told_of added who ∙ rw silent refl;
        is = asks.1;
      }
  looks_then mine between now (look.Last refusal) added gained silent at asks = absurd asks

  -- nothing is known of a leader
  pub looks_unknown : (mine now : List (Entry Any)) → Finds session group number mine found.Unknown now → AddsLook session group number false mine look.Nothing false now
  looks_unknown mine now finds = record {
    added = finds.added;
    gained = finds.gained;
    at = λ during is. more_quiet during finds.added finds.quiet is;
    told = finds.silent;
    is = tt;
  }

  -- there is a leader to follow, or a term was started
  pub looks_followed : (mine between now : List (Entry Any)) (result : Look) → Finds session group number mine found.Follows between → AddsWho session group number between result now → AddsLook session group number false mine result true now
  looks_followed mine between now result (inl finds) asks =
      looks_then mine between now result finds.asked.added finds.asked.gained finds.asked.silent (λ during is. leader_behind during finds.asked.added finds.asked.quiet finds.leader is) asks
  looks_followed mine between now result (inr finds) asks =
      let start : List (Entry Any) = finds.1.asked ++ Call session (Start group) finds.0 ∷ [] in
      looks_then mine between now result start finds.1.gained
      (flat_map-append told_of finds.1.asked (Call session (Start group) finds.0 ∷ []) ∙ rw (finds.1.silent, finds.2) refl)
      (λ during is. term_behind during finds.1.asked finds.0 finds.2 finds.1.nobody is) asks

  -- a start was refused
  pub looks_refused : (mine now : List (Entry Any)) (refusal : Refusal) → Finds session group number mine (found.Refused refusal) now → AddsLook session group number false mine (look.Last refusal) true now
  looks_refused mine now refusal finds = record {
    added = finds.asked ++ Call session (Start group) (reply.Refused refusal) ∷ [];
    gained = finds.gained;
    at = λ during is. inr (inr (start_behind during finds.asked (reply.Refused refusal) finds.nobody is));
    told = flat_map-append told_of finds.asked (Call session (Start group) (reply.Refused refusal) ∷ []) ∙ rw finds.silent refl;
    is = (finds.asked, refl);
  }
