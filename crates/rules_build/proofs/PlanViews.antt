-- What a plan is a draft of, by its variant.
use Rattle.std.proofs.Common.{◌≡◌, ℕ, false, Option, Some, None, refl, sym, ap, ◌∙◌, subst}
use Rattle.std.specs.Prelude.{Vec}
use Rattle.std.specs.Global.{Box}
use Rattle.std.specs.declared.alloc.Global.{Global}
use Rattle.scheme_model.specs.declared.Occ.{Occ}
use Rattle.scheme_model.specs.Trees.{Atom, atom, Tree, Trees, Tail}
use Rattle.scheme_model.specs.Ident.{Ident as Identifier}
use Rattle.syntax_tree.specs.Standing.{leaf_tree}
use Rattle.syntax_tree.specs.Works.{StandsFor, CanName}
use Rattle.syntax_tree.specs.Macros.{IsIdent}
use Rattle.syntax_tree.specs.declared.trees.Work.{Work}
use Rattle.syntax_tree.specs.declared.trees.table.Region.{Region}
use Rattle.syntax_tree.specs.declared.trees.nodes.Tree as number
use Rattle.syntax_tree.specs.declared.trees.nodes.Leaf.{Leaf}
use Rattle.rules_build.specs.declared.plan.Plan.{Plan, out-Plan, out-roll-Plan}
use Rattle.rules_build.specs.declared.plan.Plan.TheVariants as plan
use Rattle.rules_build.specs.declared.plan.End.TheOpen.{Plan-F, End-F}
use Rattle.rules_build.specs.declared.plan.End.{End, out-End, out-roll-End}
use Rattle.rules_build.specs.declared.plan.End.TheVariants as end
use Rattle.rules_build.specs.Drafts.{Draft, held, marked, plain, listed, in_vector, Drafts, Ending, ends, tailed, goes_on, is_listed, IsRestOf, IsDraft, AreDrafts, IsEnding}

out_held : (n : number.Tree) → out-Plan (plan.Held n) ≡ Plan-F.Held n
out_held n = ap out-Plan (sym (plan.rolls-Held n)) ∙ out-roll-Plan (Plan-F.Held n)

out_name : (n : ℕ) (o : Option Occ) → out-Plan (plan.Name n o) ≡ Plan-F.Name n o
out_name n o = ap out-Plan (sym (plan.rolls-Name n o)) ∙ out-roll-Plan (Plan-F.Name n o)

out_atom : (l : Leaf) → out-Plan (plan.Atom l) ≡ Plan-F.Atom l
out_atom l = ap out-Plan (sym (plan.rolls-Atom l)) ∙ out-roll-Plan (Plan-F.Atom l)

out_list : (items : Vec Plan Global) (e : End) → out-Plan (plan.List items e) ≡ Plan-F.List items e
out_list items e = ap out-Plan (sym (plan.rolls-List items e)) ∙ out-roll-Plan (Plan-F.List items e)

out_vector : (items : Vec Plan Global) → out-Plan (plan.Vector items) ≡ Plan-F.Vector items
out_vector items = ap out-Plan (sym (plan.rolls-Vector items)) ∙ out-roll-Plan (Plan-F.Vector items)

out_proper : out-End end.Proper ≡ End-F.Proper
out_proper = ap out-End (sym end.rolls-Proper) ∙ out-roll-End End-F.Proper

out_dotted : (p : Box Plan) → out-End (end.Dotted p) ≡ End-F.Dotted p
out_dotted p = ap out-End (sym (end.rolls-Dotted p)) ∙ out-roll-End (End-F.Dotted p)

out_behind : (n : number.Tree) (from : ℕ) → out-End (end.Behind n from) ≡ End-F.Behind n from
out_behind n from = ap out-End (sym (end.rolls-Behind n from)) ∙ out-roll-End (End-F.Behind n from)

module _ (work : Work) (region : Region) (p : Plan) where
  pub held_draft : (d : Draft) (n : number.Tree) → p ≡ plan.Held n → IsDraft work region p d → (t : Tree Identifier) × (d ≡ held t) × StandsFor work n t × CanName work region n
  held_draft (held t) n is h =
      let a = sym (out_held h.0) ∙ ap out-Plan (sym h.1 ∙ is) ∙ out_held n in
      let same : h.0 ≡ n = cc in
      (t, refl, subst (λ (m : number.Tree). StandsFor work m t) same h.2, subst (CanName work region) same h.3)
  held_draft (marked i o) n is h = let a = sym (out_name h.0 o) ∙ ap out-Plan (sym h.1 ∙ is) ∙ out_held n in absurd cc
  held_draft (plain x) n is h = let a = sym (out_atom h.0) ∙ ap out-Plan (sym h.1 ∙ is) ∙ out_held n in absurd cc
  held_draft (listed ds e) n is h = let a = sym (out_list h.0 h.1) ∙ ap out-Plan (sym h.2 ∙ is) ∙ out_held n in absurd cc
  held_draft (in_vector ds) n is h = let a = sym (out_vector h.0) ∙ ap out-Plan (sym h.1 ∙ is) ∙ out_held n in absurd cc

  pub name_draft : (d : Draft) (n : ℕ) (q : Option Occ) → p ≡ plan.Name n q → IsDraft work region p d → (i : Identifier) × (d ≡ marked i q) × IsIdent work.symbols n i
  name_draft (held t) n q is h = let a = sym (out_held h.0) ∙ ap out-Plan (sym h.1 ∙ is) ∙ out_name n q in absurd cc
  name_draft (marked i o) n q is h =
      let a = sym (out_name h.0 o) ∙ ap out-Plan (sym h.1 ∙ is) ∙ out_name n q in
      let same : h.0 ≡ n = cc in
      let place : o ≡ q = cc in
      (i, ap (marked i) place, subst (λ (m : ℕ). IsIdent work.symbols m i) same h.2)
  name_draft (plain x) n q is h = let a = sym (out_atom h.0) ∙ ap out-Plan (sym h.1 ∙ is) ∙ out_name n q in absurd cc
  name_draft (listed ds e) n q is h = let a = sym (out_list h.0 h.1) ∙ ap out-Plan (sym h.2 ∙ is) ∙ out_name n q in absurd cc
  name_draft (in_vector ds) n q is h = let a = sym (out_vector h.0) ∙ ap out-Plan (sym h.1 ∙ is) ∙ out_name n q in absurd cc

  pub atom_draft : (d : Draft) (l : Leaf) → p ≡ plan.Atom l → IsDraft work region p d → (x : Atom) × (d ≡ plain x) × (leaf_tree work.symbols l None ≡ Some (atom x None))
  atom_draft (held t) l is h = let a = sym (out_held h.0) ∙ ap out-Plan (sym h.1 ∙ is) ∙ out_atom l in absurd cc
  atom_draft (marked i o) l is h = let a = sym (out_name h.0 o) ∙ ap out-Plan (sym h.1 ∙ is) ∙ out_atom l in absurd cc
  atom_draft (plain x) l is h =
      let a = sym (out_atom h.0) ∙ ap out-Plan (sym h.1 ∙ is) ∙ out_atom l in
      let same : h.0 ≡ l = cc in
      (x, refl, subst (λ (m : Leaf). leaf_tree work.symbols m None ≡ Some (atom x None)) same h.2)
  atom_draft (listed ds e) l is h = let a = sym (out_list h.0 h.1) ∙ ap out-Plan (sym h.2 ∙ is) ∙ out_atom l in absurd cc
  atom_draft (in_vector ds) l is h = let a = sym (out_vector h.0) ∙ ap out-Plan (sym h.1 ∙ is) ∙ out_atom l in absurd cc

  pub list_draft : (d : Draft) (items : Vec Plan Global) (b : End) → p ≡ plan.List items b → IsDraft work region p d → (ds : Drafts) × (e : Ending) × (d ≡ listed ds e) × AreDrafts work region items.items ds × IsEnding work region b e
  list_draft (held t) items b is h = let a = sym (out_held h.0) ∙ ap out-Plan (sym h.1 ∙ is) ∙ out_list items b in absurd cc
  list_draft (marked i o) items b is h = let a = sym (out_name h.0 o) ∙ ap out-Plan (sym h.1 ∙ is) ∙ out_list items b in absurd cc
  list_draft (plain x) items b is h = let a = sym (out_atom h.0) ∙ ap out-Plan (sym h.1 ∙ is) ∙ out_list items b in absurd cc
  list_draft (listed ds e) items b is h =
      let a = sym (out_list h.0 h.1) ∙ ap out-Plan (sym h.2 ∙ is) ∙ out_list items b in
      let same : h.0 ≡ items = cc in
      let last : h.1 ≡ b = cc in
      (ds, e, refl, subst (λ (v : Vec Plan Global). AreDrafts work region v.items ds) same h.3, subst (λ (x : End). IsEnding work region x e) last h.4)
  list_draft (in_vector ds) items b is h = let a = sym (out_vector h.0) ∙ ap out-Plan (sym h.1 ∙ is) ∙ out_list items b in absurd cc

  pub vector_draft : (d : Draft) (items : Vec Plan Global) → p ≡ plan.Vector items → IsDraft work region p d → (ds : Drafts) × (d ≡ in_vector ds) × AreDrafts work region items.items ds
  vector_draft (held t) items is h = let a = sym (out_held h.0) ∙ ap out-Plan (sym h.1 ∙ is) ∙ out_vector items in absurd cc
  vector_draft (marked i o) items is h = let a = sym (out_name h.0 o) ∙ ap out-Plan (sym h.1 ∙ is) ∙ out_vector items in absurd cc
  vector_draft (plain x) items is h = let a = sym (out_atom h.0) ∙ ap out-Plan (sym h.1 ∙ is) ∙ out_vector items in absurd cc
  vector_draft (listed ds e) items is h = let a = sym (out_list h.0 h.1) ∙ ap out-Plan (sym h.2 ∙ is) ∙ out_vector items in absurd cc
  vector_draft (in_vector ds) items is h =
      let a = sym (out_vector h.0) ∙ ap out-Plan (sym h.1 ∙ is) ∙ out_vector items in
      let same : h.0 ≡ items = cc in
      (ds, refl, subst (λ (v : Vec Plan Global). AreDrafts work region v.items ds) same h.2)

module _ (work : Work) (region : Region) (b : End) where
  pub proper_ending : (e : Ending) → b ≡ end.Proper → IsEnding work region b e → e ≡ ends
  proper_ending ends is h = refl
  proper_ending (tailed d) is h = let a = sym (out_dotted h.0) ∙ ap out-End (sym h.1 ∙ is) ∙ out_proper in absurd cc
  proper_ending (goes_on us tail) is h = let a = sym (out_behind h.0 h.1) ∙ ap out-End (sym h.2 ∙ is) ∙ out_proper in absurd cc

  pub dotted_ending : (e : Ending) (p : Box Plan) → b ≡ end.Dotted p → IsEnding work region b e → (d : Draft) × (e ≡ tailed d) × (is_listed d ≡ false) × IsDraft work region p.value d
  dotted_ending ends p is h = let a = sym out_proper ∙ ap out-End (sym h ∙ is) ∙ out_dotted p in absurd cc
  dotted_ending (tailed d) p is h =
      let a = sym (out_dotted h.0) ∙ ap out-End (sym h.1 ∙ is) ∙ out_dotted p in
      let same : h.0 ≡ p = cc in
      (d, refl, h.2, subst (λ (q : Box Plan). IsDraft work region q.value d) same h.3)
  dotted_ending (goes_on us tail) p is h = let a = sym (out_behind h.0 h.1) ∙ ap out-End (sym h.2 ∙ is) ∙ out_dotted p in absurd cc

  pub behind_ending : (e : Ending) (n : number.Tree) (from : ℕ) → b ≡ end.Behind n from → IsEnding work region b e →
      (us : Trees Identifier) × (tail : Tail Identifier) × (e ≡ goes_on us tail) × IsRestOf work region n from us tail
  behind_ending ends n from is h = let a = sym out_proper ∙ ap out-End (sym h ∙ is) ∙ out_behind n from in absurd cc
  behind_ending (tailed d) n from is h = let a = sym (out_dotted h.0) ∙ ap out-End (sym h.1 ∙ is) ∙ out_behind n from in absurd cc
  behind_ending (goes_on us tail) n from is h =
      let a = sym (out_behind h.0 h.1) ∙ ap out-End (sym h.2 ∙ is) ∙ out_behind n from in
      let same : h.0 ≡ n = cc in
      let place : h.1 ≡ from = cc in
      (us, tail, refl, subst (λ (x : ℕ). IsRestOf work region n x us tail) place (subst (λ (m : number.Tree). IsRestOf work region m h.1 us tail) same h.3))
