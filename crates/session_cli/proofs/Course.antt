-- The course of a whole run: how the turns and the reads lead to its outcome.
use Rattle.std.proofs.Common.{◌≡◌, ◌≤◌, ℕ, Bool, true, false, Option, None, Some, List, [], ◌∷◌, ◌++◌, length, IfSome, refl, sym, ap, subst, ◌∙◌, append_assoc, true≢false, arith, inl, inr, length-append}
use Rattle.std.proofs.lemmas.List.{append-nil}
use Rattle.std.proofs.lemmas.Option.{same_Some}
use Rattle.std.specs.Io.KnownBytes.{Appends, Keeps, Consumes, IsAtEnd}
use Rattle.sql_tokens.specs.Script.{Verdict, NotYet, scan, scan_from}
use Rattle.sql_tokens.specs.Splitting.{Input, scan_with}
use Rattle.session_core.specs.State.{State, empty_state}
use Rattle.session_cli.specs.declared.options.Options.{Options}
use Rattle.session_cli.specs.declared.status.Status.{Status}
use Rattle.session_cli.specs.declared.status.Status.TheVariants as status
use Rattle.session_cli.specs.declared.running.Turn.TheVariants as turn
use Rattle.session_cli.specs.Headline.{Ran, IsWhole, IsFront, HasRead, IsNeeded, RanWhole, Outcome}
use Rattle.session_cli.specs.Turns.{CanCome, ahead, Passes, Holds, Begins, EndsWhole, Ends, TurnsTo, start, Progress, ReadsPiece}
use Rattle.session_cli.proofs.Joins.{ran_join, refusal_join, cut_join}

-- what holds of the value, if there is one
pub told : {T : Type 0} {P : T → Type 0} (o : Option T) → ((x : T) → o ≡ Some x → P x) → IfSome o P
told None h = tt
told (Some x) h = h x refl

-- no command was run
pub nothing_run : (options : Options) (script : List ℕ) (left a : Option (List ℕ)) → Appends a a [] → Outcome status.NoMemory options script left a a
nothing_run options script left a nothing =
    ([], empty_state options.mode, ((scan script true).commands, refl), record { answers = []; leads = refl; fine = λ h k d below. absurd (omega arith); written = nothing })

-- nothing is read yet
pub progress_none : (options : Options) (script : List ℕ) (left : Option (List ℕ)) (a : Option (List ℕ)) → left ≡ Some script → Appends a a [] → Progress options script left (start [] false) (empty_state options.mode) a a
progress_none options script left a is_left nothing = record {
  read = [];
  texts = [];
  has_read = record { rest = script; all = refl; is_left = is_left };
  passes = (refl, λ more over can. refl);
  at_end = λ e. absurd (true≢false (sym e));
  ran = record { answers = []; leads = refl; fine = λ h k d below. absurd (omega arith); written = nothing };
  earlier = [];
  piece = [];
  pieces = refl;
  short = omega arith;
  seen = omega arith;
}

module _ {options : Options} {script : List ℕ} {left : Option (List ℕ)} {input : Input} {state : State} {a b : Option (List ℕ)} (p : Progress options script left input state a b) where
  -- what is left of the script can come
  rest_comes : CanCome input p.has_read.rest true
  rest_comes over = (same_Some p.has_read.rest [] (sym p.has_read.is_left ∙ p.at_end over), refl)

  -- the scan of the script: what has run, and the scan of the input with what is left
  whole_scan : scan script true ≡ ahead p.texts (scan_with input p.has_read.rest true)
  whole_scan = ap (λ s. scan s true) p.has_read.all ∙ p.passes.1 p.has_read.rest true (λ e. rest_comes (p.passes.0 ∙ e))

  whole_from : {verdict : Verdict} {texts : List (List ℕ)} → Holds input texts verdict → IsWhole (p.texts ++ texts) verdict (scan script true)
  whole_from holds = whole_scan ∙ ap (ahead p.texts) (holds p.has_read.rest true rest_comes)

  front_from : (texts : List (List ℕ)) → Begins input texts → IsFront (p.texts ++ texts) (scan script true)
  front_from texts begins =
      let scan2 = begins p.has_read.rest true rest_comes in
      (scan2.0.commands, ap (λ s. s.commands) whole_scan ∙ (ap (λ s. p.texts ++ s.commands) scan2.1 ∙ sym (append_assoc p.texts texts scan2.0.commands)))

  needed_from : (texts : List (List ℕ)) (text : List ℕ) → IsNeeded p.read (p.texts ++ (texts ++ text ∷ []))
  needed_from texts text = record {
    earlier = p.earlier;
    piece = p.piece;
    are = p.pieces;
    short = p.short;
    fewer =
        omega (arith, p.seen, length-append p.texts (texts ++ text ∷ []), length-append texts (text ∷ []));
  }

  whole_end : {verdict : Verdict} {c : Option (List ℕ)} → EndsWhole verdict options.stop input state b c → RanWhole verdict options script a c
  whole_end (texts, state2, holds, ran) = (p.texts ++ texts, state2, whole_from holds, ran_join p.ran ran)

  -- the outcome of a run that a turn ended
  pub outcome_of : (result : Status) (c : Option (List ℕ)) → Ends result options.stop input state b c → Outcome result options script left a c
  outcome_of status.Done c (over, whole) = (whole_end whole, p.at_end over)
  outcome_of status.NotText c whole = whole_end whole
  outcome_of status.TooLong c whole = whole_end whole
  outcome_of status.NoMemory c (texts, state2, begins, ran) = (p.texts ++ texts, state2, front_from texts begins, ran_join p.ran ran)
  outcome_of status.Stopped c (stops, texts, text, begins, ran) =
      (stops, p.read, p.texts ++ (texts ++ text ∷ []), p.has_read, needed_from texts text, front_from (texts ++ text ∷ []) begins, refusal_join p.ran stops ran)
  outcome_of status.WriteFault c (texts, text, begins, ran) =
      (p.read, p.texts ++ (texts ++ text ∷ []), p.has_read, needed_from texts text, front_from (texts ++ text ∷ []) begins, cut_join p.ran ran)
  outcome_of status.ReadFault c h = absurd h
  outcome_of status.Usage c h = absurd h

  -- memory was refused between two turns
  pub outcome_no_memory : (left2 : Option (List ℕ)) → Outcome status.NoMemory options script left2 a b
  outcome_no_memory left2 =
      (p.texts, state, ((scan_with input p.has_read.rest true).commands, ap (λ s. s.commands) whole_scan), p.ran)

-- all that was whole has run: the scan of what was read has just these commands
pub record Paused (options : Options) (script : List ℕ) (left : Option (List ℕ)) (input : Input) (state : State) (old now : Option (List ℕ)) : Type 0 where
  pub read : List ℕ
  pub texts : List (List ℕ)
  pub has_read : HasRead script read left
  pub passes : Passes (start read false) texts input
  pub whole : IsWhole texts NotYet (scan read false)
  pub ran : Ran options.stop (empty_state options.mode) texts state old now

pub paused : {options : Options} {script : List ℕ} {left : Option (List ℕ)} {input input2 : Input} {state state2 : State} {a b c : Option (List ℕ)} → Progress options script left input state a b → TurnsTo turn.More options.stop input input2 state state2 b c → Paused options script left input2 state2 a c
paused {options} {script} {left} {input} {input2} p (unfinished, nothing, advances) =
    let same : input.over ≡ false = sym advances.passes.0 ∙ unfinished in
    let texts = p.texts ++ advances.texts in
    let passes : (more : List ℕ) (over : Bool) → scan (p.read ++ more) over ≡ ahead texts (scan_with input2 more over) =
    λ more over.
    let can : CanCome input more over = λ e. absurd (true≢false (sym e ∙ same)) in
    p.passes.1 more over (λ e. absurd (true≢false (sym e ∙ same)))
    ∙ (ap (ahead p.texts) (advances.passes.1 more over can)
    ∙ ap (λ l. record (scan_with input2 more over) { commands = l }) (sym (append_assoc p.texts advances.texts (scan_with input2 more over).commands))) in
    record {
      read = p.read;
      texts = texts;
      has_read = p.has_read;
      passes = (unfinished, λ more over can. passes more over);
      whole =
          ap (λ l. scan l false) (sym (append-nil p.read)) ∙ (passes [] false ∙ (ap (ahead texts) nothing ∙ ap (λ l. record { commands = l; verdict = NotYet }) (append-nil texts)));
      ran = ran_join p.ran advances.ran;
    }

keeps_some : (rest : List ℕ) (left2 : Option (List ℕ)) → Keeps (Some rest) left2 → left2 ≡ Some rest
keeps_some rest None h = absurd h
keeps_some rest (Some bytes) h = ap Some h

consumes_some : (rest piece : List ℕ) (left2 : Option (List ℕ)) → Consumes (Some rest) left2 piece → (rest2 : List ℕ) × (left2 ≡ Some rest2) × (rest ≡ piece ++ rest2)
consumes_some rest piece None h = absurd h
consumes_some rest piece (Some rest2) h = (rest2, refl, h)

module _ {options : Options} {script : List ℕ} {left : Option (List ℕ)} {input : Input} {state : State} {a b : Option (List ℕ)} (p : Paused options script left input state a b) where
  pub outcome_read_fault : (left2 : Option (List ℕ)) → Keeps left left2 → Outcome status.ReadFault options script left2 a b
  outcome_read_fault left2 kept = (
    p.read,
    p.texts,
    state,
    record {
      rest = p.has_read.rest;
      all = p.has_read.all;
      is_left = keeps_some p.has_read.rest left2 (subst (λ l. Keeps l left2) p.has_read.is_left kept);
    },
    p.whole,
    p.ran,
  )

  pub outcome_unfed : (left2 : Option (List ℕ)) → Outcome status.NoMemory options script left2 a b
  outcome_unfed left2 =
      let can : CanCome (start p.read false) p.has_read.rest true = λ e. absurd (true≢false (sym e)) in
      (p.texts, state, ((scan_with input p.has_read.rest true).commands, ap (λ s. s.commands) (ap (λ s. scan s true) p.has_read.all ∙ p.passes.1 p.has_read.rest true can)), p.ran)

  seen_before : length (scan p.read false).commands ≤ length p.texts
  seen_before = let same = ap (λ s. length s.commands) p.whole in omega (arith, same)

  pub progress_more : {left2 : Option (List ℕ)} {input2 : Input} → ReadsPiece left left2 input input2 → Progress options script left2 input2 state a b
  progress_more {left2} {input2} reads =
      let piece = reads.piece in
      let c = consumes_some p.has_read.rest piece left2 (subst (λ l. Consumes l left2 piece) p.has_read.is_left reads.consumes) in
      elim reads.feeds [
        | inl f ↦ subst (λ x. Progress options script left2 x state a b) (sym f.1) (record {
          read = p.read ++ piece;
          texts = p.texts;
          has_read = record {
            rest = c.0;
            all = p.has_read.all ∙ (ap (λ l. p.read ++ l) c.2 ∙ sym (append_assoc p.read piece c.0));
            is_left = c.1;
          };
          passes = (
            refl,
            λ more over can.
                ap (λ l. scan l over) (append_assoc p.read piece more)
                ∙ (p.passes.1 (piece ++ more) over (λ e. absurd (true≢false (sym e)))
                ∙ ap (λ l. ahead p.texts (scan_from input.taken l over)) (sym (append_assoc input.fed piece more))),
          );
          at_end = λ e. absurd (true≢false (sym e ∙ p.passes.0));
          ran = p.ran;
          earlier = p.read;
          piece = piece;
          pieces = refl;
          short = reads.short;
          seen = seen_before;
        })
        | inr f ↦ subst (λ x. Progress options script left2 x state a b) (sym f.1) (record {
          read = p.read;
          texts = p.texts;
          has_read = record {
            rest = c.0;
            all = p.has_read.all ∙ ap (λ l. p.read ++ l) (c.2 ∙ ap (λ l. l ++ c.0) f.0);
            is_left = c.1;
          };
          passes = (refl, λ more over can. p.passes.1 more over (λ e. absurd (true≢false (sym e))));
          at_end = λ e. c.1 ∙ ap Some (subst IsAtEnd c.1 f.2);
          ran = p.ran;
          earlier = p.read;
          piece = [];
          pieces = sym (append-nil p.read);
          short = omega arith;
          seen = seen_before;
        })
      ]
