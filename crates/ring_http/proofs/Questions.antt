-- What questions add up to.
use Rattle.std.proofs.Common.{◌≡◌, ◌<◌, ◌≤◌, ◌+◌, ℕ, List, [], ◌∷◌, ◌++◌, Option, Result, Ok, Err, IfErr, map, refl, ap, sym, ◌∙◌, subst, append_assoc, append-nil, inl, get_or, length, take}
use Rattle.std.specs.List.{flat_map}
use Rattle.std.proofs.lemmas.List.{map-append, take_all, take_more}
use Rattle.std.proofs.lemmas.List.Concat.{flat_map-append}
use Rattle.std.proofs.lemmas.List.Elements.{All-append, All-cons, All-nil}
use Rattle.ring_id.specs.Identity.{number_of}
use Rattle.ring_id.specs.declared.refusal.Refusal.TheVariants.{NoMemory}
use Rattle.ring_id.specs.declared.refusal.Refusal.TheVariants as refused
use Rattle.ring_any.specs.declared.any.Any.{Any}
use Rattle.ring_events.specs.declared.event.Command.{Command}
use Rattle.ring_events.specs.declared.event.Command.TheVariants.{Groups, Members, Terms, Who}
use Rattle.ring_events.specs.declared.reply.Reply.{Reply}
use Rattle.ring_events.specs.declared.reply.Reply.TheVariants as reply
use Rattle.ring_table.specs.declared.entry.Entry.{Entry}
use Rattle.ring_table.specs.declared.entry.Entry.TheVariants.{Call}
use Rattle.ring_http.specs.Asking.{AddsPicture, AddsPictures, AddsQuestions, ArePictured, Because, IsPictured, IsQuestion, Lacks, asked_of, hears, hears_of, who_of}
use Rattle.ring_http.specs.private.Asking.{AddsEach, AsksMembers, AsksNames, AsksTerms, GivesMembers, GivesTerms, IsAsked, LacksList}
use Rattle.ring_http.specs.private.Picturing.{AddsAll, AddsWatched}
use Rattle.ring_http.specs.declared.picture.GroupPicture.{GroupPicture}
use Rattle.ring_http.specs.declared.asking.Lack.{Lack}
use Rattle.ring_http.specs.declared.asking.Lack.TheVariants.{Late, NoGroup, Unplaced}

-- the elements so far, and one more
take_next : {X : Type 0} (xs : List X) (i : ℕ) (x : X) → i < length xs → x ≡ get_or xs i x → take (i + 1) xs ≡ take i xs ++ x ∷ []
take_next xs i x below is = take_more xs i x below ∙ ap (λ (y : _). take i xs ++ y ∷ []) (sym is)

module _ (session : ℕ) where
  -- none was added
  abbrev pub adds_none : (mine now : List (Entry Any)) → now ≡ mine → AddsQuestions session mine now
  adds_none mine now same = record { added = []; gained = same ∙ sym (append-nil mine); questions = All-nil (IsQuestion session) }

  -- one was added
  abbrev pub adds_one : (mine now : List (Entry Any)) (entry : Entry Any) → IsQuestion session entry → now ≡ mine ++ entry ∷ [] → AddsQuestions session mine now
  adds_one mine now entry is gained = record { added = entry ∷ []; gained = gained; questions = All-cons (IsQuestion session) entry [] is (All-nil (IsQuestion session)) }

  -- questions and then others
  abbrev pub adds_more : (mine mid now : List (Entry Any)) → AddsQuestions session mine mid → AddsQuestions session mid now → AddsQuestions session mine now
  adds_more mine mid now a b = record {
    added = a.added ++ b.added;
    gained = b.gained ∙ ap (λ (l : List (Entry Any)). l ++ b.added) a.gained ∙ append_assoc mine a.added b.added;
    questions = All-append (IsQuestion session) a.added b.added a.questions b.questions;
  }

  -- a question was answered, and its place did not rise
  pub lacks_late : (mine now : List (Entry Any)) (command : Command Any) (answer : Reply) → IsAsked session command → now ≡ mine ++ Call session command answer ∷ [] → Lacks session Late mine now
  lacks_late mine now command answer asked gained = record { adds = adds_one mine now (Call session command answer) (asked answer) gained; because = tt }

  -- ---- lists

  -- an answer that is no list
  lacks_list : (mine now : List (Entry Any)) (command : Command Any) (answer : Reply) (lack : Lack) → IsQuestion session (Call session command answer) → now ≡ mine ++ Call session command answer ∷ [] → LacksList answer lack → Lacks session lack mine now
  lacks_list mine now command answer (Unplaced refusal) is gained list = absurd list
  lacks_list mine now command answer NoGroup is gained list = record {
    adds = adds_one mine now (Call session command answer) is gained;
    because = record { earlier = []; command = command; whole = ap (λ (a : Reply). Call session command a ∷ []) list };
  }
  lacks_list mine now command answer Late is gained list = absurd list

  -- the names of all groups
  pub asks_names : (mine now : List (Entry Any)) (answer : Reply) (names : List (List ℕ)) → now ≡ mine ++ Call session Groups answer ∷ [] → answer ≡ reply.Groups names → AsksNames session mine (Ok names) now
  asks_names mine now answer names gained gives = subst (λ (a : Reply). now ≡ mine ++ Call session Groups a ∷ []) gives gained

  -- the members of a group
  pub asks_members : (group : List ℕ) (mine now : List (Entry Any)) (answer : Reply) (result : Result (List ℕ) Lack) → now ≡ mine ++ Call session (Members group) answer ∷ [] → GivesMembers answer result → AsksMembers session group mine result now
  asks_members group mine now answer (Ok members) gained gives = subst (λ (a : Reply). now ≡ mine ++ Call session (Members group) a ∷ []) gives gained
  asks_members group mine now answer (Err lack) gained gives = lacks_list mine now (Members group) answer lack refl gained gives

  -- the leaders of a group's terms
  pub asks_terms : (group : List ℕ) (mine now : List (Entry Any)) (answer : Reply) (result : Result (List (Option ℕ)) Lack) → now ≡ mine ++ Call session (Terms group) answer ∷ [] → GivesTerms answer result → AsksTerms session group mine result now
  asks_terms group mine now answer (Ok leaders) gained gives = subst (λ (a : Reply). now ≡ mine ++ Call session (Terms group) a ∷ []) gives gained
  asks_terms group mine now answer (Err lack) gained gives = lacks_list mine now (Terms group) answer lack refl gained gives

  -- memory was refused behind a question
  pub lacks_memory : (mine now : List (Entry Any)) (entry : Entry Any) → IsQuestion session entry → now ≡ mine ++ entry ∷ [] → Lacks session (Unplaced NoMemory) mine now
  lacks_memory mine now entry is gained = record { adds = adds_one mine now entry is gained; because = inl refl }

  -- ---- one member after another

  -- no member was asked
  pub each_none : (group : List ℕ) (informed : List ℕ) (mine : List (Entry Any)) → informed ≡ [] → AddsEach session group [] informed mine mine
  each_none group informed mine none = record { adds = adds_none mine mine refl; asks = refl; hears = none }

  -- one member more was asked
  pub each_more : (group members : List ℕ) (i member : ℕ) (answer : Reply) (informed later : List ℕ) (mine mid now : List (Entry Any)) → i < length members → member ≡ get_or members i member → AddsEach session group (take i members) informed mine mid
      → now ≡ mid ++ Call session (Who group (number_of member)) answer ∷ [] → later ≡ informed ++ hears_of (number_of member) answer → AddsEach session group (take (i + 1) members) later mine now
  each_more group members i member answer informed later mine mid now below is each gained heard =
      let entry : Entry Any = Call session (Who group (number_of member)) answer in
      record {
        adds = adds_more mine mid now each.adds (adds_one mid now entry refl gained);
        asks = map-append asked_of each.adds.added (entry ∷ []) ∙ ap (λ l. l ++ who_of session group member ∷ []) each.asks ∙ sym (map-append (who_of session group) (take i members) (member ∷ [])) ∙ sym (ap (map (who_of session group)) (take_next members i member below is));
        hears = heard ∙ ap (λ (l : List ℕ). l ++ hears_of (number_of member) answer) each.hears ∙ ends;
      }
    where
      ends : flat_map hears each.adds.added ++ hears_of (number_of member) answer ≡ flat_map hears (each.adds.added ++ Call session (Who group (number_of member)) answer ∷ [])
      ends = sym (flat_map-append hears each.adds.added (Call session (Who group (number_of member)) answer ∷ []) ∙ rw append-nil refl)

  -- all members were asked
  pub each_all : (group members : List ℕ) (i : ℕ) (informed : List ℕ) (mine now : List (Entry Any)) → length members ≤ i → AddsEach session group (take i members) informed mine now → AddsEach session group members informed mine now
  each_all group members i informed mine now past each = subst (λ (l : List ℕ). AddsEach session group l informed mine now) (take_all i members past) each

  -- ---- one picture after another

  -- why there is no answer, behind other questions
  because_after : (lack : Lack) (first second : List (Entry Any)) → Because session lack second → Because session lack (first ++ second)
  because_after (Unplaced refusal) first second because = because
  because_after NoGroup first second because = record {
    earlier = first ++ because.earlier;
    command = because.command;
    whole = ap (λ (l : List (Entry Any)). first ++ l) because.whole ∙ sym (append_assoc first because.earlier (Call session because.command (reply.Refused refused.NoGroup) ∷ []));
  }
  because_after Late first second because = tt

  -- there is no answer behind other questions
  pub lacks_after : (mine mid now : List (Entry Any)) (lack : Lack) → AddsQuestions session mine mid → Lacks session lack mid now → Lacks session lack mine now
  lacks_after mine mid now lack a b = record { adds = adds_more mine mid now a b.adds; because = because_after lack a.added b.adds.added b.because }

  -- no memory for what was asked
  pub lacks_room : (mine now : List (Entry Any)) → AddsQuestions session mine now → Lacks session (Unplaced NoMemory) mine now
  lacks_room mine now adds = record { adds = adds; because = inl refl }

  -- the members, the terms and what each member knows
  pub adds_picture : (group : GroupPicture) (mine one two now : List (Entry Any)) → one ≡ mine ++ Call session (Members group.name) (reply.Members group.members) ∷ []
      → two ≡ one ++ Call session (Terms group.name) (reply.Terms group.leaders) ∷ [] → AddsEach session group.name group.members group.informed.items two now → AddsPicture session group mine now
  adds_picture group mine one two now members terms each = record {
    adds = adds_more mine one now (adds_one mine one (Call session (Members group.name) (reply.Members group.members)) refl members)
        (adds_more one two now (adds_one one two (Call session (Terms group.name) (reply.Terms group.leaders)) refl terms) each.adds);
    pictured = record { each = each.adds.added; whole = refl; asks = each.asks; informed = each.hears };
  }

  -- a picture behind others
  pictured_after : (first last : List (Entry Any)) (groups : List GroupPicture) (group : GroupPicture) → ArePictured session first groups → IsPictured session last group → ArePictured session (first ++ last) (groups ++ group ∷ [])
  pictured_after first last [] group none is = (last, [], ap (λ (l : List (Entry Any)). l ++ last) none ∙ sym (append-nil last), is, refl)
  pictured_after first last (other ∷ groups) group some is =
      (some.0, some.1 ++ last, ap (λ (l : List (Entry Any)). l ++ last) some.2 ∙ append_assoc some.0 some.1 last, some.3, pictured_after some.1 last groups group some.4 is)

  -- no group was asked about
  pub pictures_none : (groups : List GroupPicture) (mine : List (Entry Any)) → groups ≡ [] → AddsPictures session [] groups mine mine
  pictures_none groups mine none = record { adds = adds_none mine mine refl; pictured = subst (ArePictured session []) (sym none) refl; named = ap (map (λ group. group.name)) none }

  -- one group more was asked about
  pub pictures_more : (names : List (List ℕ)) (i : ℕ) (name : List ℕ) (groups later : List GroupPicture) (group : GroupPicture) (mine mid now : List (Entry Any)) → i < length names → name ≡ get_or names i name → group.name ≡ name
      → AddsPictures session (take i names) groups mine mid → AddsPicture session group mid now → later ≡ groups ++ group ∷ [] → AddsPictures session (take (i + 1) names) later mine now
  pictures_more names i name groups later group mine mid now below is named all one grown = subst (λ (l : List GroupPicture). AddsPictures session (take (i + 1) names) l mine now) (sym grown) (record {
    adds = adds_more mine mid now all.adds one.adds;
    pictured = pictured_after all.adds.added one.adds.added groups group all.pictured one.pictured;
    named = map-append (λ (g : GroupPicture). g.name) groups (group ∷ []) ∙ ap (λ (l : List (List ℕ)). l ++ group.name ∷ []) all.named ∙ ap (λ (n : List ℕ). take i names ++ n ∷ []) named ∙ sym (take_next names i name below is);
  })

  -- all groups were asked about
  pub pictures_all : (names : List (List ℕ)) (i : ℕ) (groups : List GroupPicture) (mine now : List (Entry Any)) → length names ≤ i → AddsPictures session (take i names) groups mine now → AddsPictures session names groups mine now
  pictures_all names i groups mine now past all = subst (λ (l : List (List ℕ)). AddsPictures session l groups mine now) (take_all i names past) all

  -- a picture that is the first
  pub watched_first : (name : List ℕ) (group : GroupPicture) (mine now : List (Entry Any)) → group.name ≡ name → AddsPicture session group mine now → AddsWatched session name group mine now
  watched_first name group mine now named one = record { mid = mine; earlier = adds_none mine mine refl; last = one; named = named }

  -- all that was asked while watching
  pub watched_questions : (name : List ℕ) (group : GroupPicture) (mine now : List (Entry Any)) → AddsWatched session name group mine now → AddsQuestions session mine now
  watched_questions name group mine now watched = adds_more mine watched.mid now watched.earlier watched.last.adds

  -- a later picture
  pub watched_next : (name : List ℕ) (old group : GroupPicture) (mine mid now : List (Entry Any)) → AddsWatched session name old mine mid → group.name ≡ name → AddsPicture session group mid now → AddsWatched session name group mine now
  watched_next name old group mine mid now watched named one = record { mid = mid; earlier = watched_questions name old mine mid watched; last = one; named = named }

  -- all groups, behind the question for their names
  pub all_after : (names : List (List ℕ)) (groups : List GroupPicture) (mine mid now : List (Entry Any)) → mid ≡ mine ++ Call session Groups (reply.Groups names) ∷ [] → AddsPictures session names groups mid now → AddsAll session groups mine now
  all_after names groups mine mid now listed each = record { names = names; mid = mid; listed = listed; each = each }

  -- no answer behind the question for their names
  pub lacks_listed : (names : List (List ℕ)) (mine mid now : List (Entry Any)) (lack : Lack) → mid ≡ mine ++ Call session Groups (reply.Groups names) ∷ [] → Lacks session lack mid now → Lacks session lack mine now
  lacks_listed names mine mid now lack listed lacks = lacks_after mine mid now lack (adds_one mine mid (Call session Groups (reply.Groups names)) refl listed) lacks

  -- no answer behind the members
  pub lacks_terms : (group : List ℕ) (members : List ℕ) (mine mid now : List (Entry Any)) (lack : Lack) → mid ≡ mine ++ Call session (Members group) (reply.Members members) ∷ [] → Lacks session lack mid now → Lacks session lack mine now
  lacks_terms group members mine mid now lack gained lacks = lacks_after mine mid now lack (adds_one mine mid (Call session (Members group) (reply.Members members)) refl gained) lacks

  -- no answer behind the members and the terms
  pub lacks_each : (group : List ℕ) (members : List ℕ) (leaders : List (Option ℕ)) (mine one two now : List (Entry Any)) (lack : Lack) → one ≡ mine ++ Call session (Members group) (reply.Members members) ∷ []
      → two ≡ one ++ Call session (Terms group) (reply.Terms leaders) ∷ [] → Lacks session lack two now → Lacks session lack mine now
  lacks_each group members leaders mine one two now lack gained then lacks =
      lacks_terms group members mine one now lack gained (lacks_after one two now lack (adds_one one two (Call session (Terms group) (reply.Terms leaders)) refl then) lacks)

  -- the same, where there may be an answer
  pub lacks_if_listed : {T : Type 0} (names : List (List ℕ)) (mine mid now : List (Entry Any)) (result : Result T Lack) → mid ≡ mine ++ Call session Groups (reply.Groups names) ∷ [] → IfErr result (λ lack. Lacks session lack mid now)
      → IfErr result (λ lack. Lacks session lack mine now)
  lacks_if_listed names mine mid now (Ok value) listed lacks = tt
  lacks_if_listed names mine mid now (Err lack) listed lacks = lacks_listed names mine mid now lack listed lacks
