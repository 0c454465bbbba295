-- Lines that the buffer gave are owed an answer: they are answered, and the answers are passed on.
use Rattle.std.proofs.Common.{◌≡◌, ◌+◌, ◌*◌, ◌<◌, ◌≤◌, ℕ, List, [], ◌++◌, length, Err, ap, sym, ◌∙◌, subst, arith, length-append, append-nil, append_assoc}
use Rattle.std.specs.List.{All}
use Rattle.std.proofs.lemmas.List.Elements.{All-append}
use Rattle.std.proofs.lemmas.List.Concat.{flat_map-append}
use Rattle.ring_lines.specs.Ends.{End, Reading, Writing, WroteFront}
use Rattle.ring_lines.specs.Buffer.{BufferView}
use Rattle.ring_lines.specs.Reader.{CutsLines, Stops, most_bytes}
use Rattle.ring_lines.specs.private.Batches.{JoinsHeld}
use Rattle.ring_lines.specs.private.Pages.{Passes}
use Rattle.ring_lines.specs.Rounds.{AnswerRules, AnswersLines, AreInTurn, Round, Rounds, RunOf, calls_of, read_in, text_of, written_in}
use Rattle.ring_lines.specs.declared.answers.LineFault.TheVariants as fault
use Rattle.ring_lines.specs.declared.answers.Next.{Next}
use Rattle.ring_lines.proofs.AnsweringLines.{Answering, AnsweringNext, end, moved}
use Rattle.ring_lines.proofs.Beginning.{cuts_none}
use Rattle.ring_lines.proofs.Rounds.{in_turn-append, owed_first, run_length, run_then}

-- The answers to the lines that were given so far, except these lines, which have no answer yet.
pub record Owing {S V A B : Type 0} (reader : End S Reading) (writer : End V Writing) (rules : AnswerRules A B) (old : A) (reads count : ℕ) (come : List (List ℕ)) (buffer : BufferView) (page : List ℕ) (now : A) : Type 0 where
  pub rounds : List Round
  pub lines : List (List ℕ)
  pub given : List B
  pub run : RunOf rules.answers old lines given now
  pub legal : All rules.is_legal given
  pub made : Rounds reader.gives writer.gives reader.from writer.from rounds reader.to writer.to
  pub in_turn : AreInTurn rules.spelling given rounds
  pub whole : written_in rounds ++ page ≡ text_of rules.spelling given
  pub spent : length (calls_of rounds) + buffer.reads ≡ reads
  pub stops : Stops buffer.phase (calls_of rounds) buffer.reads
  pub cuts : CutsLines buffer.phase (read_in rounds) (lines ++ come) buffer.held
  pub counted : count ≡ length lines
  pub fewer : length (lines ++ come) + most_bytes buffer ≤ 4096 * reads

-- more answers after the text that was written and the text on the page
text_then : {B : Type 0} (spelling : B → List ℕ) (written page : List ℕ) (given later : List B) → written ++ page ≡ text_of spelling given → written ++ (page ++ text_of spelling later) ≡ text_of spelling (given ++ later)
text_then spelling written page given later whole =
    sym (append_assoc written page (text_of spelling later))
    ∙ ap (λ (text : List ℕ). text ++ text_of spelling later) whole
    ∙ sym (flat_map-append spelling given later)

module _ {S V A B : Type 0} (reading : S → Reading → S → Type 0) (writing : V → Writing → V → Type 0) (rules : AnswerRules A B) (reader : S) (writer : V) (old : A) (reads : ℕ) where
  module _ (count : ℕ) (reader_now : S) (writer_now : V) (said : Next) (buffer : BufferView) (page : List ℕ) (now : A) (n : AnsweringNext (end reading reader reader_now) (end writing writer writer_now) rules old reads count said buffer page now) where
    -- the lines that the buffer gave are owed an answer
    pub owing_come : Owing (end reading reader reader_now) (end writing writer writer_now) rules old reads count n.come buffer page now
    owing_come = record {
      rounds = n.rounds;
      lines = n.lines;
      given = n.given;
      run = n.run;
      legal = n.legal;
      made = n.made;
      in_turn = n.in_turn;
      whole = n.whole;
      spent = n.spent;
      stops = n.stops;
      cuts = n.cuts;
      counted = n.counted;
      fewer = n.fewer;
    }

  -- and so are the lines of the buffer that follow them
  pub owing_joined : {K : Type 0} (asks : List ℕ → K → Type 0) (count : ℕ) (reader_now : S) (writer_now : V) (come : List (List ℕ)) (buffer : BufferView) (page : List ℕ) (now : A) (before after : List K) (new : BufferView) → Owing (end reading reader reader_now) (end writing writer writer_now) rules old reads count come buffer page now → (j : JoinsHeld asks buffer before new after) → Owing (end reading reader reader_now) (end writing writer writer_now) rules old reads count (come ++ j.given) new page now
  owing_joined asks count reader_now writer_now come buffer page now before after new o j = record {
    rounds = o.rounds;
    lines = o.lines;
    given = o.given;
    run = o.run;
    legal = o.legal;
    made = o.made;
    in_turn = o.in_turn;
    whole = o.whole;
    spent = omega (arith, o.spent, j.reads);
    stops = rw (j.phase, j.reads) o.stops;
    cuts = rw (j.phase, ← append_assoc) (j.cuts (read_in o.rounds) (o.lines ++ come) o.cuts);
    counted = o.counted;
    fewer = omega (arith, o.fewer, j.fewer, j.reads, length-append (o.lines ++ come) j.given, ap length (append_assoc o.lines come j.given));
  }

  module _ (count : ℕ) (reader_now : S) (writer_now : V) (come : List (List ℕ)) (buffer : BufferView) (page : List ℕ) (now : A) (o : Owing (end reading reader reader_now) (end writing writer writer_now) rules old reads count come buffer page now) where
    -- these lines were answered, and the answers follow the text on the page
    answering_lines : (later : List B) (new : A) → RunOf rules.answers now come later new → All rules.is_legal later → Answering (end reading reader reader_now) (end writing writer writer_now) rules old reads (count + length later) buffer (page ++ text_of rules.spelling later) new
    answering_lines later new run legal = record {
      rounds = o.rounds;
      lines = o.lines ++ come;
      given = o.given ++ later;
      run = run_then rules.answers old o.lines come o.given later now new o.run run;
      legal = All-append rules.is_legal o.given later o.legal legal;
      made = o.made;
      in_turn = in_turn-append rules.spelling o.given later o.rounds o.in_turn;
      whole = text_then rules.spelling (written_in o.rounds) page o.given later o.whole;
      spent = o.spent;
      stops = o.stops;
      cuts = o.cuts;
      counted = omega (arith, o.counted, length-append o.lines come, run_length rules.answers now come later new run);
      fewer = o.fewer;
    }

    -- and the answers were passed on
    pub answering_passed : (later : List B) (new : A) (writer_then : V) (page_then : List ℕ) → 0 < length come → RunOf rules.answers now come later new → All rules.is_legal later → Passes writing writer_now page (text_of rules.spelling later) writer_then page_then → Answering (end reading reader reader_now) (end writing writer writer_then) rules old reads (count + length later) buffer page_then new
    unfolding answering_lines
    answering_passed later new writer_then page_then some run legal p =
        let a = answering_lines later new run legal in
        let late : a.rounds ≡ [] → writer_then ≡ writer_now = λ none.
        let lines : o.lines ++ come ≡ [] = cuts_none buffer.phase (o.lines ++ come) buffer.held (subst (λ (rounds : List Round). CutsLines buffer.phase (read_in rounds) (o.lines ++ come) buffer.held) none o.cuts) in
        absurd (omega (arith, some, ap length lines, length-append o.lines come)) in
        moved reading writing rules reader writer old reads (count + length later) reader_now writer_now buffer (page ++ text_of rules.spelling later) new a writer_then page_then
        (record { written = p.written; wrote = p.wrote; whole = p.whole ∙ sym (append-nil (page ++ text_of rules.spelling later)) }) late

    -- and writing failed before all of their answers were passed on
    pub fails_lines : (later : List B) (new : A) (writer_then : V) → RunOf rules.answers now come later new → WroteFront writing writer_now (page ++ text_of rules.spelling later) writer_then → AnswersLines (end reading reader reader_now) (end writing writer writer_then) rules reads (Err fault.Write) old new
    fails_lines later new writer_then run failed = record {
      rounds = o.rounds;
      lines = o.lines ++ come;
      given = o.given ++ later;
      run = run_then rules.answers old o.lines come o.given later now new o.run run;
      legal = tt;
      granted = omega (arith, o.spent);
      in_turn = in_turn-append rules.spelling o.given later o.rounds o.in_turn;
      answered = owed_first buffer.phase (calls_of o.rounds) buffer.reads (o.lines ++ come) buffer.held o.stops o.cuts;
      writes = record {
        out = writer_now;
        made = o.made;
        owed = page ++ text_of rules.spelling later;
        whole = text_then rules.spelling (written_in o.rounds) page o.given later o.whole;
        failed = failed;
      };
    }
