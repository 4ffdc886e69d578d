use Rattle.std.proofs.Common.{◌≡◌, ℕ, true, take, sym, ap, subst, ◌∙◌}
use Rattle.sql_tokens.specs.declared.splitter.text.Reading.TheVariants as reading
use Rattle.sql_tokens.specs.Places.{content_at}
use Rattle.sql_tokens.specs.FirstText.{exceeds}
use Rattle.sql_tokens.specs.Splitting.{Input, IsCommand}
use Rattle.sql_tokens.proofs.Taking.{at_long, Follows, follows_read, reads_command, on_err}
use Rattle.sql_tokens.proofs.splitter.Splitter.pass_text.Goals as goal

pub returns-then-exceeds-clause-some : goal.returns-then-exceeds-clause-some
returns-then-exceeds-clause-some c =
    let i = c.args.self.now in
    let found = c.first_text-found.result in
    let same = c.first_text-found.ensures.same in
    let taken : c.self.inside.taken ≡ i.taken = ap (λ (x : Input). x.taken) (c.self.view_is ∙ same) in
    let long : exceeds i.taken found.length found.cut ≡ true = sym (ap (λ (x : ℕ). exceeds x found.length found.cut) taken) ∙ sym c.exceeds.ensures ∙ c.if-exceeds.true in
    rw same (at_long i found.length (content_at found.place) found.cut c.first_text-found.ensures.first long)

pub returns-in-NotText-clause-some : goal.returns-in-NotText-clause-some
returns-in-NotText-clause-some c =
    let i = c.args.self.now in
    let found = c.first_text-found.result in
    let same = c.first_text-found.ensures.same in
    let f : Follows i found.length found.cut (reading.NotText) = follows_read i c.first_text-found.new.self found.length c.self.inside.taken (content_at found.place) found.cut c.self.inside.over c.ends_blank.result c.fed.result.now (reading.NotText)
    same (ap (λ (x : Input). x.taken) c.self.view_is) (ap (λ (x : Input). x.over) c.self.view_is) c.fed.ensures c.first_text-found.ensures.first
    (sym c.exceeds.ensures ∙ c.if-exceeds.false) (sym c.is_whole.ensures ∙ c.if-not-is_whole.false) c.ends_blank.ensures (sym c.in-NotText.is ∙ c.in_ok-read.ensures.ok) in
    rw same f

pub returns-in-Blank-clause-none : goal.returns-in-Blank-clause-none
returns-in-Blank-clause-none c =
    let i = c.args.self.now in
    let found = c.first_text-found.result in
    let same = c.first_text-found.ensures.same in
    let f : Follows i found.length found.cut (reading.Blank) = follows_read i c.first_text-found.new.self found.length c.self.inside.taken (content_at found.place) found.cut c.self.inside.over c.ends_blank.result c.fed.result.now (reading.Blank)
    same (ap (λ (x : Input). x.taken) c.self.view_is) (ap (λ (x : Input). x.over) c.self.view_is) c.fed.ensures c.first_text-found.ensures.first
    (sym c.exceeds.ensures ∙ c.if-exceeds.false) (sym c.is_whole.ensures ∙ c.if-not-is_whole.false) c.ends_blank.ensures (sym c.in-Blank.is ∙ c.in_ok-read.ensures.ok) in
    rw (c.pass.ensures, c.size.ensures, same) (f.0 c.if-found.true)

pub returns-in-Blank-2-clause-some : goal.returns-in-Blank-2-clause-some
returns-in-Blank-2-clause-some c =
    let i = c.args.self.now in
    let found = c.first_text-found.result in
    let same = c.first_text-found.ensures.same in
    let f : Follows i found.length found.cut (reading.Blank) = follows_read i c.first_text-found.new.self found.length c.self.inside.taken (content_at found.place) found.cut c.self.inside.over c.ends_blank.result c.fed.result.now (reading.Blank)
    same (ap (λ (x : Input). x.taken) c.self.view_is) (ap (λ (x : Input). x.over) c.self.view_is) c.fed.ensures c.first_text-found.ensures.first
    (sym c.exceeds.ensures ∙ c.if-exceeds.false) (sym c.is_whole.ensures ∙ c.if-not-is_whole.false) c.ends_blank.ensures (sym c.in-Blank.is ∙ c.in_ok-read.ensures.ok) in
    rw (c.pass-in-Blank-2.ensures, c.size-in-Blank-2.ensures, same) (f.1 c.if-found.false)

pub returns-in-Command-clause-some : goal.returns-in-Command-clause-some
returns-in-Command-clause-some c =
    let i = c.args.self.now in
    let found = c.first_text-found.result in
    let same = c.first_text-found.ensures.same in
    let f : Follows i found.length found.cut (reading.Command c.in-Command.command) = follows_read i c.first_text-found.new.self found.length c.self.inside.taken (content_at found.place) found.cut c.self.inside.over c.ends_blank.result c.fed.result.now (reading.Command c.in-Command.command)
    same (ap (λ (x : Input). x.taken) c.self.view_is) (ap (λ (x : Input). x.over) c.self.view_is) c.fed.ensures c.first_text-found.ensures.first
    (sym c.exceeds.ensures ∙ c.if-exceeds.false) (sym c.is_whole.ensures ∙ c.if-not-is_whole.false) c.ends_blank.ensures (sym c.in-Command.is ∙ c.in_ok-read.ensures.ok) in
    rw (c.pass-in-Command.ensures, c.size-in-Command.ensures, same) f

pub returns-in_err-read-clause-memory : goal.returns-in_err-read-clause-memory
returns-in_err-read-clause-memory c =
    let i = c.args.self.now in
    let found = c.first_text-found.result in
    let same = c.first_text-found.ensures.same in
    let text = take found.length c.fed.result.now in
    let f : Follows i found.length found.cut (reading.Command text) = follows_read i c.first_text-found.new.self found.length c.self.inside.taken (content_at found.place) found.cut c.self.inside.over c.ends_blank.result c.fed.result.now (reading.Command text)
    same (ap (λ (x : Input). x.taken) c.self.view_is) (ap (λ (x : Input). x.over) c.self.view_is) c.fed.ensures c.first_text-found.ensures.first
    (sym c.exceeds.ensures ∙ c.if-exceeds.false) (sym c.is_whole.ensures ∙ c.if-not-is_whole.false) c.ends_blank.ensures (reads_command text c.ends_blank.result c.in_err-read.ensures.err.0 c.in_err-read.ensures.err.1) in
    on_err c.from_residual.result (subst IsCommand f.first tt)
