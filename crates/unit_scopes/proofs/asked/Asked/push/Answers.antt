use Rattle.std.proofs.Common.{◌≡◌, length, ap, ◌∙◌, arith}
use Rattle.std.specs.Prelude.{Vec}
use Rattle.std.specs.declared.alloc.Global.{Global}
use Rattle.unit_scopes.specs.declared.asked.Note.{Note}
use Rattle.unit_scopes.specs.Asks.{idents_of}
use Rattle.unit_scopes.proofs.AskLaws.{push_one, push_two}
use Rattle.unit_scopes.proofs.asked.Asked.push.Goals as goal

pub returns-in_ok-ask-in-LookedUp-clause-stands : goal.returns-in_ok-ask-in-LookedUp-clause-stands
returns-in_ok-ask-in-LookedUp-clause-stands c = λ h.
    let e = c.in_ok-ask-in-LookedUp.ensures in
    let count : c.len-number.result ≡ length c.args.self.now.notes.items = omega (arith, c.len-number.ensures, c.args.self.now.notes.ok.0) in
    push_one c.args.symbols.now c.args.self.now c.ask.new.self c.args.note c.in-LookedUp.at.ident c.len-number.result h (ap idents_of c.in-LookedUp.is) count
    (ap (λ (v : Vec Note Global). v.items) e.notes ∙ c.in_ok-push.ensures.items) e.numbers e.others e.known

pub returns-in_ok-ask-in-Compared-2-clause-stands : goal.returns-in_ok-ask-in-Compared-2-clause-stands
returns-in_ok-ask-in-Compared-2-clause-stands c = λ h.
    let e = c.in_ok-ask-in-Compared.ensures in
    let f = c.in_ok-ask-in-Compared-2.ensures in
    let count : c.len-number.result ≡ length c.args.self.now.notes.items = omega (arith, c.len-number.ensures, c.args.self.now.notes.ok.0) in
    push_two c.args.symbols.now c.args.self.now c.ask-in-Compared.new.self c.ask-in-Compared-2.new.self c.args.note c.in-Compared.literal.ident c.in-Compared.at.ident c.len-number.result h (ap idents_of c.in-Compared.is) count
    (ap (λ (v : Vec Note Global). v.items) (f.notes ∙ e.notes) ∙ c.in_ok-push.ensures.items) e.numbers f.numbers (λ n le. f.others n le ∙ e.others n le) e.known f.known
