-- Drafts in a row from a place on, and how many nodes and how deep they are.
use Rattle.std.proofs.Common.{◌≡◌, ℕ, zero, suc, ◌+◌, ◌<◌, ◌≤◌, List, [], ◌∷◌, length, get_or, refl, sym, ap, ◌∙◌, subst, arith}
use Rattle.std.specs.Prelude.{max}
use Rattle.scheme_model.specs.Identifiers.{Number}
use Rattle.scheme_model.specs.Trees.{Trees, no_trees}
use Rattle.scheme_model.specs.Measures.{tree_size, trees_size, tree_depth, trees_depth}
use Rattle.scheme_model.specs.Ident.{Ident as Identifier}
use Rattle.syntax_tree.specs.declared.trees.Work.{Work}
use Rattle.syntax_tree.specs.declared.trees.table.Region.{Region}
use Rattle.rules_build.specs.declared.plan.Plan.{Plan}
use Rattle.rules_build.specs.Drafts.{Draft, Drafts, no_drafts, draft, tree_of, row_of, IsDraft, AreDrafts}

-- drafts from a place on
abbrev pub drafts_behind : ℕ → Drafts → Drafts
drafts_behind zero ds = ds
drafts_behind (suc j) no_drafts = no_drafts
drafts_behind (suc j) (draft d ds) = drafts_behind j ds

module _ (work : Work) (region : Region) where
  pub record DraftThere (ds : Drafts) (j : ℕ) (p : Plan) : Type 0 where
    pub here : Draft
    pub is : IsDraft work region p here
    pub split : drafts_behind j ds ≡ draft here (drafts_behind (j + 1) ds)

  pub draft_there : (j : ℕ) (ps : List Plan) (ds : Drafts) (p : Plan) → AreDrafts work region ps ds → j < length ps → DraftThere ds j (get_or ps j p)
  draft_there j [] ds p h l = absurd (omega arith)
  draft_there j (q ∷ qs) no_drafts p h l = absurd h
  draft_there zero (q ∷ qs) (draft d ds) p h l = record { here = d; is = h.0; split = refl }
  draft_there (suc j) (q ∷ qs) (draft d ds) p h l =
      let r = draft_there j qs ds p h.1 (omega arith) in
      let e : suc j + 1 ≡ suc (j + 1) = omega arith in
      record { here = r.here; is = r.is; split = r.split ∙ ap (λ (i : ℕ). draft r.here (drafts_behind i (draft d ds))) (sym e) }

  pub drafts_past : (j : ℕ) (ps : List Plan) (ds : Drafts) → AreDrafts work region ps ds → length ps ≤ j → drafts_behind j ds ≡ no_drafts
  drafts_past zero [] no_drafts h l = refl
  drafts_past (suc j) [] no_drafts h l = refl
  drafts_past j [] (draft d ds) h l = absurd h
  drafts_past j (p ∷ ps) no_drafts h l = absurd h
  drafts_past zero (p ∷ ps) (draft d ds) h l = absurd (omega arith)
  drafts_past (suc j) (p ∷ ps) (draft d ds) h l = drafts_past j ps ds h.1 (omega arith)

module _ (k : Number) where
  pub row_size : (ds : Drafts) (us : Trees Identifier) → trees_size (row_of k ds us) ≡ trees_size (row_of k ds no_trees) + trees_size us
  row_size no_drafts us = omega arith
  row_size (draft d ds) us = let e = row_size ds us in omega arith

  pub row_depth : (ds : Drafts) (us : Trees Identifier) → trees_depth (row_of k ds us) ≡ max (trees_depth (row_of k ds no_trees)) (trees_depth us)
  row_depth no_drafts us = omega arith
  row_depth (draft d ds) us = let e = row_depth ds us in omega arith

  behind_size : (j : ℕ) (ds : Drafts) → trees_size (row_of k (drafts_behind j ds) no_trees) ≤ trees_size (row_of k ds no_trees)
  behind_size zero ds = omega arith
  behind_size (suc j) no_drafts = omega arith
  behind_size (suc j) (draft d ds) = let e = behind_size j ds in omega arith

  behind_depth : (j : ℕ) (ds : Drafts) → trees_depth (row_of k (drafts_behind j ds) no_trees) ≤ trees_depth (row_of k ds no_trees)
  behind_depth zero ds = omega arith
  behind_depth (suc j) no_drafts = omega arith
  behind_depth (suc j) (draft d ds) = let e = behind_depth j ds in omega arith

  -- each is no larger and no deeper than the row
  pub one_size : (j : ℕ) (ds : Drafts) (d : Draft) (es : Drafts) → drafts_behind j ds ≡ draft d es → tree_size (tree_of k d) ≤ trees_size (row_of k ds no_trees)
  one_size j ds d es e =
      let b : trees_size (row_of k (draft d es) no_trees) ≤ trees_size (row_of k ds no_trees) = subst (λ (x : Drafts). trees_size (row_of k x no_trees) ≤ trees_size (row_of k ds no_trees)) e (behind_size j ds) in
      omega arith

  pub one_depth : (j : ℕ) (ds : Drafts) (d : Draft) (es : Drafts) → drafts_behind j ds ≡ draft d es → tree_depth (tree_of k d) ≤ trees_depth (row_of k ds no_trees)
  one_depth j ds d es e =
      let b : trees_depth (row_of k (draft d es) no_trees) ≤ trees_depth (row_of k ds no_trees) = subst (λ (x : Drafts). trees_depth (row_of k x no_trees) ≤ trees_depth (row_of k ds no_trees)) e (behind_depth j ds) in
      omega arith
