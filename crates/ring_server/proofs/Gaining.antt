-- The entries that a session adds to those of its seat: calls of its own, line by line.
use Rattle.std.proofs.Common.{◌∙◌, ℕ, inl, inr, List, [], ◌∷◌, ◌++◌, All, ap, refl, subst, sym}
use Rattle.std.proofs.lemmas.List.{append_assoc, append-nil}
use Rattle.std.proofs.lemmas.List.Elements.{All-append, All-cons, All-nil}
use Rattle.ring_any.specs.declared.any.Any.{Any}
use Rattle.ring_lines.specs.Rounds.{RunOf}
use Rattle.ring_events.specs.declared.reply.Reply.{Reply}
use Rattle.ring_service.specs.Sessions.{AnswersIn, RepliesTo}
use Rattle.ring_table.specs.declared.entry.Entry.{Entry}
use Rattle.ring_server.specs.Sessions.{GainsCalls, IsCallOf}

-- the entries that a line adds
reply_gains : (session : ℕ) (line : List ℕ) (answer : Reply) (gained : List (Entry Any)) → RepliesTo session line answer gained → All (IsCallOf session) gained
reply_gains session line answer gained (inl placed) = subst (All (IsCallOf session)) (sym placed.entry) (All-cons (IsCallOf session) _ [] refl (All-nil (IsCallOf session)))
reply_gains session line answer gained (inr (inl out)) = subst (All (IsCallOf session)) (sym out.none) (All-nil (IsCallOf session))
reply_gains session line answer gained (inr (inr unread)) = subst (All (IsCallOf session)) (sym unread.none) (All-nil (IsCallOf session))

pub answer_gains : (session : ℕ) (line : List ℕ) (mine : List (Entry Any)) (answer : Reply) (now : List (Entry Any)) → AnswersIn session line mine answer now → GainsCalls session mine now
answer_gains session line mine answer now answers = record { gained = answers.0; behind = answers.2; theirs = reply_gains session line answer answers.0 answers.1 }

module _ {A B : Type 0} (session : ℕ) (mine : A → List (Entry Any)) (answers : List ℕ → A → B → A → Type 0) (each : (line : List ℕ) (old : A) (answer : B) (new : A) → answers line old answer new → GainsCalls session (mine old) (mine new)) where
  -- the entries that lines add, one after another
  pub run_gains : (lines : List (List ℕ)) (given : List B) (old new : A) → RunOf answers old lines given new → GainsCalls session (mine old) (mine new)
  run_gains [] [] old new run = record { gained = []; behind = ap mine run ∙ sym (append-nil (mine old)); theirs = All-nil (IsCallOf session) }
  run_gains [] (answer ∷ given) old new run = absurd run
  run_gains (line ∷ lines) [] old new run = absurd run
  run_gains (line ∷ lines) (answer ∷ given) old new run =
      let first = each line old answer run.0 run.1 in
      let later = run_gains lines given run.0 new run.2 in record {
        gained = first.gained ++ later.gained;
        behind = later.behind ∙ ap (λ (entries : List (Entry Any)). entries ++ later.gained) first.behind ∙ append_assoc (mine old) first.gained later.gained;
        theirs = All-append (IsCallOf session) first.gained later.gained first.theirs later.theirs;
      }
