use Rattle.std.proofs.Common.{◌≡◌, ℕ, ◌<◌, length, Option, Some, None, refl, sym, subst}
use Rattle.std.proofs.lemmas.Option.{slice_get_within}
use Rattle.scheme_model.specs.Ident.{Ident as Identifier}
use Rattle.scheme_model.specs.Order.{RulesParts, rules_parts_of}
use Rattle.core_forms.specs.Parts.{IsName}
use Rattle.core_forms.specs.declared.shape.NamePart.{NamePart}
use Rattle.form_parts.specs.FormsSeen.{IsRulesHead}
use Rattle.syntax_tree.specs.Macros.{IsIdent}
use Rattle.syntax_tree.specs.Names.{Names}
use Rattle.noted_steps.specs.Asked.{head_asked}
use Rattle.noted_steps.specs.Standing.{Stands}
use Rattle.noted_steps.proofs.rules.note_rules_head.Goals as goal

no_head : (names : Names) (o : Option (RulesParts Identifier)) → IsRulesHead names None o → o ≡ None
no_head names None h = refl
no_head names (Some r) h = absurd h

some_head : (names : Names) (n : ℕ) (o : Option (RulesParts Identifier)) → IsRulesHead names (Some n) o → (r : RulesParts Identifier) × (o ≡ Some r) × IsIdent names n r.head
some_head names n None h = absurd h
some_head names n (Some r) h = (r, refl, h)

pub returns-in-None-clause-noted : goal.returns-in-None-clause-noted
returns-in-None-clause-noted c = λ known ls s fs t e at stands.
    subst (λ (o : Option (RulesParts Identifier)). Stands c.args.work.now c.args.units.now ls (head_asked known fs o s)) (sym (no_head c.args.work.now.symbols (rules_parts_of t) (c.in-None.ensures t stands))) e

pub note_name-requires-clause-ident : goal.note_name-requires-clause-ident
note_name-requires-clause-ident c =
    let names = c.args.work.now.symbols in
    let t = c.requires.rules in
    let h = some_head names c.in-Some.ident (rules_parts_of t.0) (c.in-Some.ensures t.0 t.1) in
    subst (λ (x : NamePart). x.ident < length names.idents) (sym c.named.ensures) (slice_get_within names.idents c.in-Some.ident h.0.head h.2)

pub returns-in-Some-clause-noted : goal.returns-in-Some-clause-noted
returns-in-Some-clause-noted c = λ known ls s fs t e at stands.
    let work = c.args.work.now in
    let h = some_head work.symbols c.in-Some.ident (rules_parts_of t) (c.in-Some.ensures t stands) in
    let name = subst (λ (x : NamePart). IsName work x (record { name = h.0.head; occ = None })) (sym c.named.ensures) (h.2, refl) in
    subst (λ (o : Option (RulesParts Identifier)). Stands work c.note_name.new.units ls (head_asked known fs o s)) (sym h.1) (c.note_name.ensures.noted known ls s fs (record { name = h.0.head; occ = None }) e at name)
