-- How runs of commands join.
use Rattle.std.proofs.Common.{◌≡◌, ℕ, Bool, true, false, Option, List, [], ◌∷◌, ◌++◌, take, refl, sym, ap, subst, ◌∙◌, append_assoc, true≢false, arith}
use Rattle.std.proofs.lemmas.Grind.{flat_map-append}
use Rattle.std.proofs.lemmas.List.{append-nil}
use Rattle.std.proofs.lemmas.List.Elements.{All-push}
use Rattle.std.specs.Io.KnownBytes.{Appends}
use Rattle.sql_tokens.specs.declared.splitter.took.Took.{Took}
use Rattle.sql_tokens.specs.declared.splitter.took.Took.TheVariants as took
use Rattle.sql_tokens.specs.Script.{Scan, Verdict, Over, NotYet, NotText, TooLong, scan_from}
use Rattle.sql_tokens.specs.Splitting.{Input, scan_of, scan_with, first_of, verdict_of, Precedes, Takes}
use Rattle.session_core.specs.declared.session.Done.{Done}
use Rattle.session_core.specs.declared.session.Done.TheVariants as done
use Rattle.session_core.specs.Machine.{Step, Leads}
use Rattle.session_core.specs.State.{State}
use Rattle.session_cli.specs.declared.output.Halt.TheVariants as halt
use Rattle.session_cli.specs.declared.status.Status.TheVariants as status
use Rattle.session_cli.specs.declared.running.Turn.TheVariants as turn
use Rattle.session_cli.specs.Headline.{Answer, joined, Ran, IsWhole}
use Rattle.session_cli.specs.Turns.{CanCome, ahead, Passes, Begins, Advances, Ends, TurnsTo, Halts}
use Rattle.session_cli.proofs.Pieces.{Appends-then, Appends-keeps, Appends-none}

pub leads_more : (state middle state2 : State) (texts : List (List ℕ)) (answers : List Answer) (text : List ℕ) (answer : Answer) → Leads state texts answers middle → Step middle text answer.0 answer.1 state2 → Leads state (texts ++ text ∷ []) (answers ++ answer ∷ []) state2
leads_more state middle state2 [] [] text answer same step = (state2, subst (λ s. Step s text answer.0 answer.1 state2) same step, refl)
leads_more state middle state2 (t ∷ texts) (a ∷ answers) text answer (next, first, others) step =
    (next, first, leads_more next middle state2 texts answers text answer others step)
leads_more state middle state2 [] (a ∷ answers) text answer h step = absurd h
leads_more state middle state2 (t ∷ texts) [] text answer h step = absurd h

pub joined_more : (answers : List Answer) (answer : Answer) → joined (answers ++ answer ∷ []) ≡ joined answers ++ answer.1
joined_more answers answer =
    flat_map-append (λ (a : Answer). a.1) answers (answer ∷ []) ∙ ap (λ l. joined answers ++ l) (append-nil answer.1)

-- one more command was run
pub ran_more : (stop : Bool) (state middle state2 : State) (texts : List (List ℕ)) (text : List ℕ) (answer : Answer) (a b c : Option (List ℕ)) → Ran stop state texts middle a b → Step middle text answer.0 answer.1 state2 → Appends b c answer.1 → (stop ≡ true → answer.0 ≡ done.Ok) → Ran stop state (texts ++ text ∷ []) state2 a c
ran_more stop state middle state2 texts text answer a b c ran step written ok = record {
  answers = ran.answers ++ answer ∷ [];
  leads = leads_more state middle state2 texts ran.answers text answer ran.leads step;
  fine = λ h. All-push (λ a. a.0 ≡ done.Ok) ran.answers answer (ran.fine h) (ok h);
  written = subst (λ l. Appends a c l) (sym (joined_more ran.answers answer)) (Appends-then a b c (joined ran.answers) answer.1 ran.written written);
}

scan_with-none : (input : Input) (more : List ℕ) (over : Bool) → more ≡ [] → over ≡ input.over → scan_with input more over ≡ scan_of input
scan_with-none input more over none same =
    let fed : input.fed ++ more ≡ input.fed = ap (λ l. input.fed ++ l) none ∙ append-nil input.fed in
    λ i. scan_from input.taken (fed i) (same i)

over_stays : (taken : Took) (m n : Input) → Takes taken m n → n.over ≡ m.over
over_stays taken m n takes = ap (λ x. x.over) takes.left

-- what a take says of the scans, whatever comes
takes_step : (taken : Took) (m n : Input) → Takes taken m n → (more : List ℕ) (over : Bool) → CanCome m more over → Precedes taken (scan_with m more over) (scan_with n more over)
takes_step taken m n takes more over can = by m.over refl
  where
    by : (b : Bool) → m.over ≡ b → Precedes taken (scan_with m more over) (scan_with n more over)
    by false e = takes.further e more over
    by true e =
        let c = can e in
        let old = scan_with-none m more over c.0 (c.1 ∙ sym e) in
        let new = scan_with-none n more over c.0 (c.1 ∙ sym (over_stays taken m n takes ∙ e)) in
        subst (λ s. Precedes taken s (scan_with n more over)) (sym old) (subst (λ s. Precedes taken (scan_of m) s) (sym new) takes.rest)

can_come : (i m : Input) (texts : List (List ℕ)) → Passes i texts m → (more : List ℕ) (over : Bool) → CanCome i more over → CanCome m more over
can_come i m texts passes more over can e = can (sym passes.0 ∙ e)

passes_more : (i m n : Input) (texts : List (List ℕ)) (text : List ℕ) → Passes i texts m → Takes (took.Command text) m n → Passes i (texts ++ text ∷ []) n
passes_more i m n texts text passes takes = (
  over_stays (took.Command text) m n takes ∙ passes.0,
  λ more over can.
      passes.1 more over can
      ∙ (ap (ahead texts) (takes_step (took.Command text) m n takes more over (can_come i m texts passes more over can))
      ∙ ap (λ c. record (scan_with n more over) { commands = c }) (sym (append_assoc texts (text ∷ []) (scan_with n more over).commands))),
)

begins_from : (i m : Input) (texts : List (List ℕ)) → Passes i texts m → Begins i texts
begins_from i m texts passes more over can = (scan_with m more over, passes.1 more over can)

pub advances_none : (stop : Bool) (i : Input) (s : State) (a : Option (List ℕ)) → Advances stop i i s s a a
advances_none stop i s a = record {
  texts = [];
  passes = (refl, λ more over can. refl);
  ran = record { answers = []; leads = refl; fine = λ h k d below. absurd (omega arith); written = Appends-none a };
}

-- a command was taken and run
pub advances_more : {stop : Bool} {i m n : Input} {s t t2 : State} {text : List ℕ} {end : Done} (output : List ℕ) {a b c : Option (List ℕ)} → Advances stop i m s t a b → Takes (took.Command text) m n → Step t text end output t2 → Appends b c output → (stop ≡ true → end ≡ done.Ok) → Advances stop i n s t2 a c
advances_more {stop} {i} {m} {n} {s} {t} {t2} {text} {end} output {a} {b} {c} advances takes step written ok = record {
  texts = advances.texts ++ text ∷ [];
  passes = passes_more i m n advances.texts text advances.passes takes;
  ran = ran_more stop s t t2 advances.texts text (end, output) a b c advances.ran step written ok;
}

-- a verdict that a take gives back
abbrev verdict_in : Took → Verdict
verdict_in took.Over = Over
verdict_in took.NotYet = NotYet
verdict_in took.NotText = NotText
verdict_in took.TooLong = TooLong
verdict_in (took.Command command) = NotYet

verdict_in-verdict_of : (verdict : Verdict) → verdict_in (verdict_of verdict) ≡ verdict
verdict_in-verdict_of Over = refl
verdict_in-verdict_of NotYet = refl
verdict_in-verdict_of NotText = refl
verdict_in-verdict_of TooLong = refl

abbrev is_command : Took → Bool
is_command (took.Command command) = true
is_command _ = false

no_command : (verdict : Verdict) → is_command (verdict_of verdict) ≡ false
no_command Over = refl
no_command NotYet = refl
no_command NotText = refl
no_command TooLong = refl

-- a take that gives a verdict was at the end of the commands
nothing_first : (verdict v : Verdict) (commands : List (List ℕ)) → verdict_of verdict ≡ first_of commands v → IsWhole [] verdict (record { commands = commands; verdict = v })
nothing_first verdict v [] e =
    let same : v ≡ verdict = sym (verdict_in-verdict_of v) ∙ (ap verdict_in (sym e) ∙ verdict_in-verdict_of verdict) in
    ap (λ w. record { commands = []; verdict = w }) same
nothing_first verdict v (command ∷ commands) e = absurd (true≢false (sym (ap is_command e) ∙ no_command verdict))

nothing_taken : (verdict : Verdict) (m n : Input) → Takes (verdict_of verdict) m n → IsWhole [] verdict (scan_of m)
nothing_taken verdict m n takes = nothing_first verdict (scan_of m).verdict (scan_of m).commands takes.first

whole_after : (texts : List (List ℕ)) (verdict : Verdict) (scan scan2 : Scan) → scan ≡ ahead texts scan2 → IsWhole [] verdict scan2 → IsWhole texts verdict scan
whole_after texts verdict scan scan2 e nothing =
    e ∙ (ap (ahead texts) nothing ∙ ap (λ c. record { commands = c; verdict = verdict }) (append-nil texts))

-- the ends of a run, after what was run
module _ {stop : Bool} {i m : Input} {s t : State} {a b : Option (List ℕ)} (advances : Advances stop i m s t a b) where
  pub ends_done : {n : Input} → Takes took.Over m n → m.over ≡ true → Ends status.Done stop i s a b
  ends_done {n} takes over = (
    sym advances.passes.0 ∙ over,
    (
      advances.texts,
      t,
      (λ more rest can.
          let c = can_come i m advances.texts advances.passes more rest can in
          let none = c over in
          whole_after advances.texts Over _ _ (advances.passes.1 more rest can) (scan_with-none m more rest none.0 (none.1 ∙ sym over) ∙ nothing_taken Over m n takes)),
      advances.ran,
    ),
  )

  pub ends_not_text : {n : Input} → Takes took.NotText m n → Ends status.NotText stop i s a b
  ends_not_text {n} takes = (
    advances.texts,
    t,
    (λ more rest can.
        whole_after advances.texts NotText _ _ (advances.passes.1 more rest can) ((takes_step took.NotText m n takes more rest (can_come i m advances.texts advances.passes more rest can)).0)),
    advances.ran,
  )

  pub ends_too_long : {n : Input} → Takes took.TooLong m n → Ends status.TooLong stop i s a b
  ends_too_long {n} takes = (
    advances.texts,
    t,
    (λ more rest can.
        whole_after advances.texts TooLong _ _ (advances.passes.1 more rest can) ((takes_step took.TooLong m n takes more rest (can_come i m advances.texts advances.passes more rest can)).0)),
    advances.ran,
  )

  pub ends_no_memory : Ends status.NoMemory stop i s a b
  ends_no_memory = (advances.texts, t, begins_from i m advances.texts advances.passes, advances.ran)

  pub ends_halted : (text : List ℕ) (c : Option (List ℕ)) → Halts halt.NoMemory t text b c → Ends status.NoMemory stop i s a c
  ends_halted text c kept = (
    advances.texts,
    t,
    begins_from i m advances.texts advances.passes,
    record {
      answers = advances.ran.answers;
      leads = advances.ran.leads;
      fine = advances.ran.fine;
      written = Appends-keeps a b c (joined advances.ran.answers) advances.ran.written kept;
    },
  )

  pub turns_more : {n : Input} → Takes took.NotYet m n → m.over ≡ false → TurnsTo turn.More stop i n s t a b
  turns_more {n} takes unfinished =
      let still : n.over ≡ false = over_stays took.NotYet m n takes ∙ unfinished in (
        still,
        scan_with-none n [] false refl (sym still) ∙ (sym takes.rest ∙ nothing_taken NotYet m n takes),
        record {
          texts = advances.texts;
          passes = (over_stays took.NotYet m n takes ∙ advances.passes.0, λ more rest can. advances.passes.1 more rest can ∙ ap (ahead advances.texts) (takes_step took.NotYet m n takes more rest (can_come i m advances.texts advances.passes more rest can)));
          ran = advances.ran;
        },
      )

  module _ {text : List ℕ} {n : Input} (takes : Takes (took.Command text) m n) where
    pub ends_stopped : (t2 : State) (output : List ℕ) (c : Option (List ℕ)) → stop ≡ true → Step t text done.Refused output t2 → Appends b c output → Ends status.Stopped stop i s a c
    ends_stopped t2 output c stops step written = (
      stops,
      advances.texts,
      text,
      begins_from i n (advances.texts ++ text ∷ []) (passes_more i m n advances.texts text advances.passes takes),
      record {
        answers = advances.ran.answers;
        output = output;
        state2 = t2;
        leads = leads_more s t t2 advances.texts advances.ran.answers text (done.Refused, output) advances.ran.leads step;
        fine = advances.ran.fine stops;
        written = subst (λ l. Appends a c l) (sym (joined_more advances.ran.answers (done.Refused, output))) (Appends-then a b c (joined advances.ran.answers) output advances.ran.written written);
      },
    )

    pub ends_write_fault : (c : Option (List ℕ)) → Halts halt.WriteFault t text b c → Ends status.WriteFault stop i s a c
    ends_write_fault c (end, output, some, t2, step, written) = (
      advances.texts,
      text,
      begins_from i n (advances.texts ++ text ∷ []) (passes_more i m n advances.texts text advances.passes takes),
      record {
        answers = advances.ran.answers;
        last = (end, output);
        some = some;
        state2 = t2;
        leads = leads_more s t t2 advances.texts advances.ran.answers text (end, output) advances.ran.leads step;
        fine = advances.ran.fine;
        written = Appends-then a b c (joined advances.ran.answers) (take some output) advances.ran.written written;
      },
    )
