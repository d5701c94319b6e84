use Rattle.std.proofs.Common.{sym, ap, ◌∙◌, subst, List, [], ◌∷◌, ◌++◌, true, false, Ok, refl}
use Rattle.std.specs.Prelude.{is_some}
use Rattle.scheme_model.specs.Trees.{Tail}
use Rattle.scheme_model.specs.ExpansionFaults.{◌>>◌}
use Rattle.scheme_model.specs.Shapes.{formals_in, names_of, name_of}
use Rattle.scheme_model.specs.Ident.{Ident as Identifier}
use Rattle.syntax_tree.proofs.Looking.{no_end, end_standing}
use Rattle.core_forms.specs.declared.shape.NamePart.{NamePart}
use Rattle.core_forms.specs.Parts.{AllMatch, IsName, IsFormals}
use Rattle.core_forms.proofs.Reading.{then_err, then_ok, matches_more}
use Rattle.core_forms.proofs.Lists.{formals_start, end_tree}
use Rattle.core_forms.proofs.names.formals_in.Goals as goal

pub name_of-requires : goal.name_of-requires
name_of-requires c = end_standing c.args.work.now c.args.end c.in-Some.last c.in-Some.is c.requires.tail

pub returns-in_err-names : goal.returns-in_err-names
returns-in_err-names c = λ ts tail stands ends.
    let w = c.args.work.now in
    let s = formals_start ts tail in
    then_err w (IsFormals w) (names_of ts) s.0 (formals_in ts tail) c.from_residual.result c.in_err-names.field-0.0 s.1 c.from_residual.ensures.1 (c.in_err-names.ensures ts stands)

pub returns-in-None : goal.returns-in-None
returns-in-None c = λ ts tail stands ends.
    let w = c.args.work.now in
    let ns = c.in_ok-names.ensures ts stands in
    let gone = no_end w c.args.end tail (ap is_some c.in-None.is) ends in
    (record { names = ns.0; rest = false }, ap (λ (x : Tail Identifier). formals_in ts x) gone ∙ then_ok (names_of ts) (λ ns. Ok (record { names = ns; rest = false })) ns.0 ns.1, record { names = ns.2; rest = refl })

pub returns-in_ok-push-in-Some : goal.returns-in_ok-push-in-Some
returns-in_ok-push-in-Some c = λ ts tail stands ends.
    let w = c.args.work.now in
    let ns = c.in_ok-names.ensures ts stands in
    let d = end_tree w c.args.end c.in-Some.last tail c.in-Some.is ends in
    let n = c.in_ok-name-in-Some.ensures d.0 d.2 in
    let are = matches_more (IsName w) c.in_ok-names.names.items ns.0 c.in_ok-name-in-Some.name n.0 ns.2 n.2 in (
      record { names = ns.0 ++ n.0 ∷ []; rest = true },
      ap (λ (x : Tail Identifier). formals_in ts x) d.1 ∙ then_ok (names_of ts) (λ ns. name_of d.0 >> λ n. Ok (record { names = ns ++ n ∷ []; rest = true })) ns.0 ns.1
          ∙ then_ok (name_of d.0) (λ n. Ok (record { names = ns.0 ++ n ∷ []; rest = true })) n.0 n.1,
      record { names = subst (λ (xs : List NamePart). AllMatch (IsName w) xs (ns.0 ++ n.0 ∷ [])) (sym c.in_ok-push-in-Some.ensures.items) are; rest = refl },
    )
