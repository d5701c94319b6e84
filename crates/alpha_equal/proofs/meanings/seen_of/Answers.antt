use Rattle.std.proofs.Common.{◌≡◌, Bool, true, false, sym, ap, ◌∙◌, subst, rules, arith}
use Rattle.std.proofs.lemmas.Bool.Decides.{nat_tests}
use Rattle.std.specs.Prelude.{◌==◌, if◌then◌else◌}
use Rattle.std.specs.Option.{option_map}
use Rattle.scheme_model.specs.Ident.{symbol_of}
use Rattle.rename_model.specs.Walks.{OfName, OfDefinition, IsOfPrelude, meaning_seen, number_in}
use Rattle.syntax_tree.specs.Meant.{IsMeaning}
use Rattle.syntax_tree.specs.declared.meaning.Meaning.{Meaning}
use Rattle.alpha_equal.proofs.MeaningLaws.{within, global_is, standard_is, free_is}
use Rattle.alpha_equal.proofs.meanings.seen_of.Goals as goal

pub returns-in-Local : goal.returns-in-Local
returns-in-Local c = λ table unit form m knows is. ap (meaning_seen table) (subst (λ (x : Meaning). IsMeaning c.args.work.now.symbols unit form x m) c.in-Local.is is)

pub strip-requires : goal.strip-requires
strip-requires c =
    let h = c.requires in
    let names = c.args.work.now.symbols in
    let g = global_is names h.0 h.1 c.in-Global.unit c.in-Global.ident h.2 (subst (λ (x : Meaning). IsMeaning names h.0 h.1 x h.2) c.in-Global.is h.3) in
    within names.idents c.in-Global.ident g.0 g.2

pub returns-then-unit-eq-PRELUDE : goal.returns-then-unit-eq-PRELUDE
returns-then-unit-eq-PRELUDE c = λ table unit form m knows is.
    let names = c.args.work.now.symbols in
    let g = global_is names unit form c.in-Global.unit c.in-Global.ident m (subst (λ (x : Meaning). IsMeaning names unit form x m) c.in-Global.is is) in
    let u = c.in-Global.unit in
    let prelude : (u == 128) ≡ true = first_of (search rules, grind (arith, nat_tests)) in (
      symbol_of g.0,
      c.strip.ensures ∙ ap (option_map symbol_of) g.2,
      ap (meaning_seen table) g.1 ∙ ap (λ (b : Bool). if b then OfName IsOfPrelude (symbol_of g.0) else OfDefinition u (number_in table u g.0)) prelude,
    )

pub returns-else-unit-eq-PRELUDE : goal.returns-else-unit-eq-PRELUDE
returns-else-unit-eq-PRELUDE c = λ table unit form m knows is.
    let names = c.args.work.now.symbols in
    let g = global_is names unit form c.in-Global.unit c.in-Global.ident m (subst (λ (x : Meaning). IsMeaning names unit form x m) c.in-Global.is is) in
    let u = c.in-Global.unit in
    let other : (u == 128) ≡ false = first_of (search rules, grind (arith, nat_tests)) in
    ap (meaning_seen table) g.1 ∙ ap (λ (b : Bool). if b then OfName IsOfPrelude (symbol_of g.0) else OfDefinition u (number_in table u g.0)) other
    ∙ ap (OfDefinition u) (sym (c.number-number.ensures ∙ knows u c.in-Global.ident g.0 g.2))

pub returns-in-Standard : goal.returns-in-Standard
returns-in-Standard c = λ table unit form m knows is.
    let names = c.args.work.now.symbols in
    let g = standard_is names unit form c.in-Standard.name m (subst (λ (x : Meaning). IsMeaning names unit form x m) c.in-Standard.is is) in
    (g.0, g.2, ap (meaning_seen table) g.1)

pub returns-in-Free : goal.returns-in-Free
returns-in-Free c = λ table unit form m knows is.
    let names = c.args.work.now.symbols in
    let g = free_is names unit form c.in-Free.name m (subst (λ (x : Meaning). IsMeaning names unit form x m) c.in-Free.is is) in
    (g.0, g.2, ap (meaning_seen table) g.1)
