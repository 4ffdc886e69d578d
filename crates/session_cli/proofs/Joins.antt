-- How runs join: of texts, and of the texts after them.
use Rattle.std.proofs.Common.{◌≡◌, ℕ, Bool, true, Option, List, [], ◌∷◌, ◌++◌, take, sym, ap, subst, ◌∙◌, append_assoc}
use Rattle.std.proofs.lemmas.Grind.{flat_map-append}
use Rattle.std.proofs.lemmas.List.Elements.{All-append}
use Rattle.std.specs.Io.KnownBytes.{Appends}
use Rattle.session_core.specs.declared.session.Done.TheVariants as done
use Rattle.session_core.specs.Machine.{Leads}
use Rattle.session_core.specs.State.{State}
use Rattle.session_cli.specs.Headline.{Answer, joined, NoneRefused, Ran, RanToRefusal, RanToCut}
use Rattle.session_cli.proofs.Pieces.{Appends-then}

leads_join : (state middle state2 : State) (texts others : List (List ℕ)) (answers more : List Answer) → Leads state texts answers middle → Leads middle others more state2 → Leads state (texts ++ others) (answers ++ more) state2
leads_join state middle state2 [] others [] more same leads = subst (λ s. Leads s others more state2) same leads
leads_join state middle state2 (t ∷ texts) others (a ∷ answers) more (next, first, rest) leads =
    (next, first, leads_join next middle state2 texts others answers more rest leads)
leads_join state middle state2 [] others (a ∷ answers) more h leads = absurd h
leads_join state middle state2 (t ∷ texts) others [] more h leads = absurd h

joined-append : (answers more : List Answer) → joined (answers ++ more) ≡ joined answers ++ joined more
joined-append answers more = flat_map-append (λ (a : Answer). a.1) answers more

fine-append : (answers more : List Answer) → NoneRefused answers → NoneRefused more → NoneRefused (answers ++ more)
fine-append answers more = All-append (λ a. a.0 ≡ done.Ok) answers more

module _ {stop : Bool} {s m : State} {texts : List (List ℕ)} {a b : Option (List ℕ)} (ran : Ran stop s texts m a b) where
  pub ran_join : {others : List (List ℕ)} {t : State} {c : Option (List ℕ)} → Ran stop m others t b c → Ran stop s (texts ++ others) t a c
  ran_join {others} {t} {c} next = record {
    answers = ran.answers ++ next.answers;
    leads = leads_join s m t texts others ran.answers next.answers ran.leads next.leads;
    fine = λ h. fine-append ran.answers next.answers (ran.fine h) (next.fine h);
    written = subst (λ l. Appends a c l) (sym (joined-append ran.answers next.answers)) (Appends-then a b c (joined ran.answers) (joined next.answers) ran.written next.written);
  }

  pub refusal_join : {others : List (List ℕ)} {c : Option (List ℕ)} → stop ≡ true → RanToRefusal m others b c → RanToRefusal s (texts ++ others) a c
  refusal_join {others} {c} stops next =
      let last = (done.Refused, next.output) ∷ [] in
      let assoc = append_assoc ran.answers next.answers last in
      record {
        answers = ran.answers ++ next.answers;
        output = next.output;
        state2 = next.state2;
        leads = subst (λ l. Leads s (texts ++ others) l next.state2) (sym assoc) (leads_join s m next.state2 texts others ran.answers (next.answers ++ last) ran.leads next.leads);
        fine = fine-append ran.answers next.answers (ran.fine stops) next.fine;
        written = subst (λ l. Appends a c l) (sym (ap joined assoc ∙ joined-append ran.answers (next.answers ++ last))) (Appends-then a b c (joined ran.answers) (joined (next.answers ++ last)) ran.written next.written);
      }

  pub cut_join : {others : List (List ℕ)} {c : Option (List ℕ)} → RanToCut stop m others b c → RanToCut stop s (texts ++ others) a c
  cut_join {others} {c} next =
      let cut = take next.some next.last.1 in
      record {
        answers = ran.answers ++ next.answers;
        last = next.last;
        some = next.some;
        state2 = next.state2;
        leads = subst (λ l. Leads s (texts ++ others) l next.state2) (sym (append_assoc ran.answers next.answers (next.last ∷ []))) (leads_join s m next.state2 texts others ran.answers (next.answers ++ next.last ∷ []) ran.leads next.leads);
        fine = λ h. fine-append ran.answers next.answers (ran.fine h) (next.fine h);
        written = subst (λ l. Appends a c l) (sym (ap (λ l. l ++ cut) (joined-append ran.answers next.answers) ∙ append_assoc (joined ran.answers) (joined next.answers) cut)) (Appends-then a b c (joined ran.answers) (joined next.answers ++ cut) ran.written next.written);
      }
