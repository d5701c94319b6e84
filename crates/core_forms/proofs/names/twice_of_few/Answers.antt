use Rattle.std.proofs.Common.{◌≡◌, true, false, ◌+◌, ◌∷◌, get_or, drop, None, sym, ◌∙◌, arith}
use Rattle.std.specs.Prelude.{nat_eq}
use Rattle.std.specs.List.{list_any}
use Rattle.std.proofs.lemmas.List.{drop_more}
use Rattle.core_forms.specs.declared.shape.NamePart.{NamePart}
use Rattle.core_forms.proofs.Distinct.{twice_here, twice_more, numbers_more}
use Rattle.core_forms.proofs.names.twice_of_few.Goals as goal

pub returns-then-has_number : goal.returns-then-has_number
returns-then-has_number c =
    let i = c.loop-k.k in
    let all = c.args.names.now in
    let d : NamePart = record { ident = 0; occ = None } in
    let v : NamePart = get_or all i d in
    let inv = c.loop-k.invariant in
    let known : list_any (nat_eq v.ident) inv.0 ≡ true = sym (inv.2 v.ident) ∙ sym c.has_number.ensures ∙ c.if-has_number.true in
    sym (inv.1 ∙ twice_here inv.0 (drop i all) (drop (i + 1) all) v (drop_more all i d (omega arith)) known)

pub loop-k-preserved : goal.loop-k-preserved
loop-k-preserved c =
    let i = c.loop-k.k in
    let all = c.args.names.now in
    let d : NamePart = record { ident = 0; occ = None } in
    let v : NamePart = get_or all i d in
    let inv = c.loop-k.invariant in
    let fresh : list_any (nat_eq v.ident) inv.0 ≡ false = sym (inv.2 v.ident) ∙ sym c.has_number.ensures ∙ c.if-has_number.false in
    (v.ident ∷ inv.0, inv.1 ∙ twice_more inv.0 (drop i all) (drop (i + 1) all) v (drop_more all i d (omega arith)) fresh, λ q. numbers_more all i d inv.0 q (omega arith) (inv.2 q))
