-- Arrows of renumbered leaves, keywords and names are those before, renumbered.
use Rattle.std.proofs.Common.{◌≡◌, ℕ, zero, suc, List, [], ◌∷◌, ◌++◌, map, Bool, true, false, cond, Option, Some, None, Result, Ok, Err, refl, ap, ◌∙◌}
use Rattle.std.specs.Prelude.{◌&&◌, ◌||◌, ◌==◌, not}
use Rattle.scheme_model.specs.declared.Occ.{Occ}
use Rattle.scheme_model.specs.Identifiers.{Number}
use Rattle.scheme_model.specs.Ident.{Ident}
use Rattle.scheme_model.specs.Trees.{Tree, name, atom, list, vector, Trees, no_trees, tree, Tail, proper, dotted}
use Rattle.scheme_model.specs.Meaning.{Meaning, Local, Global, Standard, Free}
use Rattle.scheme_model.specs.RulesShape.{Rule, Rules, Variable, pattern_variables, option_map}
use Rattle.scheme_model.specs.Cores.{Target, Bound, LocalNumber, Definition, Binder, FieldUse, RuleLeaf, MacroDef, MacroUse, Core, Ref, Const, Quote, Quasi, Lambda, CaseLambda, If, Set, Call, Body, LetSyntax, Cores, no_cores, core, Clauses, no_clauses, clause, Parts, no_parts, part, Part, Expression, Define, Values, Fields, Syntax}
use Rattle.scheme_model.specs.Steps.{Broken}
use Rattle.scheme_model.specs.Order.{Counted}
use Rattle.scheme_model.specs.Expression.{meaning_of}
use Rattle.scheme_model.specs.Substitution.{Table, Defined, defined_in}
use Rattle.scheme_model.specs.UnitExpansion.{Formed}
use Rattle.scheme_model.specs.Entries.{same_occ}
use Rattle.scheme_model.specs.Live.{CoreLeaf, Binds, Uses, Assigns, Quotes, Defines, name_places, name_places_all, name_places_tail, any_name, no_hole, binds_all, field_use, fields_used, macro_leaves, leaves_of, leaves_of_all, leaves_of_clauses, leaves_of_parts, leaves_of_part, form_leaves, unit_leaves, use_targets, counted_targets, keyword_targets, NameUse}
use Rattle.scheme_model.specs.ProgramArrows.{Arrow, bound_here, local_at, occ_in, binder_of, arrow_of, is_occ, leaf_at, any, is_live_at, target_arrows, name_arrows, core_targets, variable_arrow, template_arrows, template_arrows_all, template_arrows_tail, ident_names, rule_arrows, leaf_arrows, macro_arrows, arrows_with}
use Rattle.scheme_model.proofs.RenamingLaws.{append_map, map_turned, cond_map}
use Rattle.renumbering_laws.specs.Moving.{move_tree, move_trees, move_tail, move_rule, move_rules}
use Rattle.renumbering_laws.specs.Renumbering.{Renumbering, IsOneToOne, number, occ_at, place, ident, meaning, change, places_of, target, bound, binder, rule_leaf, macro_of, field_use as field_use_as, core_as, cores_as, clauses_as, parts_as, part_as, macro_use_as, counted_as, result_as, formed_as}
use Rattle.renumbering_laws.specs.States.{defined_as, TablesMove}
use Rattle.renumbering_laws.specs.Arrows.{leaf_as, name_use_as, arrow_as}
use Rattle.renumbering_laws.proofs.MovedParts.{Moves}
use Rattle.renumbering_laws.proofs.OneToOne.{behind_units, number_moved, ident_moved}
use Rattle.renumbering_laws.proofs.MovedPatterns.{variable_map}
use Rattle.renumbering_laws.proofs.MovedRules.{pattern_variables-map}
use Rattle.renumbering_laws.proofs.ScopedSide.{symbol_moved}

-- ---- the leaves of cores

module _ (r : Renumbering) where
  abbrev leaves : List CoreLeaf → List CoreLeaf
  leaves ls = map (leaf_as r) ls

  place_of-moved : (b : Bool) (o : Option Occ) → cond b (Quotes (place r o) ∷ []) [] ≡ leaves (cond b (Quotes o ∷ []) [])
  place_of-moved true o = refl
  place_of-moved false o = refl

  module _ (A : Type 0) (test : A → Bool) where
    mutual
      places-moved : (t : Tree A) → name_places test (move_tree (places_of r) t) ≡ leaves (name_places test t)
      places-moved (name i o) = place_of-moved (test i) o
      places-moved (atom a o) = refl
      places-moved (list ts tail o) = append_map (leaf_as r) (name_places_all test ts) (name_places_tail test tail) (all_places-moved ts) (tail_places-moved tail)
      places-moved (vector ts o) = all_places-moved ts

      all_places-moved : (ts : Trees A) → name_places_all test (move_trees (places_of r) ts) ≡ leaves (name_places_all test ts)
      all_places-moved no_trees = refl
      all_places-moved (tree t ts) = append_map (leaf_as r) (name_places test t) (name_places_all test ts) (places-moved t) (all_places-moved ts)

      tail_places-moved : (tail : Tail A) → name_places_tail test (move_tail (places_of r) tail) ≡ leaves (name_places_tail test tail)
      tail_places-moved proper = refl
      tail_places-moved (dotted t) = places-moved t

  binds-moved : (bs : List Binder) → map Binds (map (binder r) bs) ≡ leaves (map Binds bs)
  binds-moved bs = map_turned Binds (binder r) (leaf_as r) Binds (λ b. refl) bs

  meaning_seen : (b : Bound) (i : Ident) → meaning_of (bound r b) (ident r i) ≡ meaning r (meaning_of b i)
  meaning_seen (LocalNumber v) i = refl
  meaning_seen (Definition u n) i = refl

  field-moved : (bs : List Binder) (n : ℕ) (o : Option Occ) → field_use (map (binder r) bs) n (place r o) ≡ leaves (field_use bs n o)
  field-moved [] n o = refl
  field-moved (b ∷ bs) zero o = ap (λ m. Uses (record { meaning = m; ident = ident r b.ident; occ = place r o }) ∷ []) (meaning_seen b.bound b.ident)
  field-moved (b ∷ bs) (suc n) o = field-moved bs n o

  fields-moved : (bs : List Binder) (us : List FieldUse) → fields_used (map (binder r) bs) (map (field_use_as r) us) ≡ leaves (fields_used bs us)
  fields-moved bs [] = refl
  fields-moved bs (u ∷ us) = append_map (leaf_as r) (field_use bs u.field u.occ) (fields_used bs us) (field-moved bs u.field u.occ) (fields-moved bs us)

  macros-moved : (ms : List MacroDef) → macro_leaves (map (macro_of r) ms) ≡ leaves (macro_leaves ms)
  macros-moved [] = refl
  macros-moved (m ∷ ms) = ap (λ ls. Binds (binder r m.binder) ∷ Defines (macro_of r m) ∷ ls) (macros-moved ms)

  mutual
    pub leaves-moved : (c : Core) → leaves_of (core_as r c) ≡ leaves (leaves_of c)
    leaves-moved (Ref t) = refl
    leaves-moved (Const a) = refl
    leaves-moved (Quote d) = places-moved (List ℕ) any_name d
    leaves-moved (Quasi d cs) = append_map (leaf_as r) (name_places no_hole d) (leaves_of_all cs) (places-moved (Option (List ℕ)) no_hole d) (all-moved cs)
    leaves-moved (Lambda bs c) = append_map (leaf_as r) (binds_all bs) (leaves_of c) (binds-moved bs.names) (leaves-moved c)
    leaves-moved (CaseLambda cs) = clauses-moved cs
    leaves-moved (If cs) = all-moved cs
    leaves-moved (Set t c) = ap (λ ls. Assigns (target r t) ∷ ls) (leaves-moved c)
    leaves-moved (Call cs) = all-moved cs
    leaves-moved (Body ps) = parts-moved ps
    leaves-moved (LetSyntax ms c) = append_map (leaf_as r) (macro_leaves ms) (leaves_of c) (macros-moved ms) (leaves-moved c)

    all-moved : (cs : Cores) → leaves_of_all (cores_as r cs) ≡ leaves (leaves_of_all cs)
    all-moved no_cores = refl
    all-moved (core c cs) = append_map (leaf_as r) (leaves_of c) (leaves_of_all cs) (leaves-moved c) (all-moved cs)

    clauses-moved : (cs : Clauses) → leaves_of_clauses (clauses_as r cs) ≡ leaves (leaves_of_clauses cs)
    clauses-moved no_clauses = refl
    clauses-moved (clause bs c cs) =
        append_map (leaf_as r) (binds_all bs ++ leaves_of c) (leaves_of_clauses cs) (append_map (leaf_as r) (binds_all bs) (leaves_of c) (binds-moved bs.names) (leaves-moved c)) (clauses-moved cs)

    parts-moved : (ps : Parts) → leaves_of_parts (parts_as r ps) ≡ leaves (leaves_of_parts ps)
    parts-moved no_parts = refl
    parts-moved (part p ps) = append_map (leaf_as r) (leaves_of_part p) (leaves_of_parts ps) (part-moved p) (parts-moved ps)

    part-moved : (p : Part) → leaves_of_part (part_as r p) ≡ leaves (leaves_of_part p)
    part-moved (Expression c) = leaves-moved c
    part-moved (Define b c) = ap (λ ls. Binds (binder r b) ∷ ls) (leaves-moved c)
    part-moved (Values bs c) = append_map (leaf_as r) (binds_all bs) (leaves_of c) (binds-moved bs.names) (leaves-moved c)
    part-moved (Fields t) =
        append_map (leaf_as r) (map Binds t.binders ++ map Binds t.fields) (fields_used t.fields t.used)
        (append_map (leaf_as r) (map Binds t.binders) (map Binds t.fields) (binds-moved t.binders) (binds-moved t.fields)) (fields-moved t.fields t.used)
    part-moved (Syntax m) = refl

  form-moved : (x : Result Parts Broken) → form_leaves (result_as r (parts_as r) x) ≡ leaves (form_leaves x)
  form-moved (Ok ps) = parts-moved ps
  form-moved (Err e) = refl

  -- the leaves of a unit's forms, and the keywords and literals that they met
  pub unit_leaves_moved : (u : ℕ) (fs : List Formed) → unit_leaves (map (formed_as r u) fs) ≡ leaves (unit_leaves fs)
  unit_leaves_moved u [] = refl
  unit_leaves_moved u (f ∷ fs) = append_map (leaf_as r) (form_leaves f.result) (unit_leaves fs) (form-moved f.result) (unit_leaves_moved u fs)

  uses-moved : (us : List MacroUse) → use_targets (map (macro_use_as r) us) ≡ map (target r) (use_targets us)
  uses-moved [] = refl
  uses-moved (u ∷ us) = ap (λ ts. target r u.keyword ∷ ts) (append_map (target r) u.literals (use_targets us) refl (uses-moved us))

  counted-moved : (x : Result Parts Broken) (c : Counted) → counted_targets (result_as r (parts_as r) x) (counted_as r c) ≡ map (target r) (counted_targets x c)
  counted-moved (Ok ps) c = append_map (target r) c.keywords (use_targets c.met) refl (uses-moved c.met)
  counted-moved (Err e) c = refl

  pub keywords_moved : (u : ℕ) (fs : List Formed) → keyword_targets (map (formed_as r u) fs) ≡ map (target r) (keyword_targets fs)
  keywords_moved u [] = refl
  keywords_moved u (f ∷ fs) = append_map (target r) (counted_targets f.result f.counted) (keyword_targets fs) (counted-moved f.result f.counted) (keywords_moved u fs)

-- ---- arrows

module _ (r : Renumbering) (o : IsOneToOne r) where
  abbrev arrows : List Arrow → List Arrow
  arrows xs = map (arrow_as r) xs

  pub occ_moved : (a b : Occ) → same_occ (occ_at r a) (occ_at r b) ≡ same_occ a b
  occ_moved a b =
      ap (λ t. t && ((r.form a.unit a.form == r.form b.unit b.form) && (a.token == b.token))) (o.units a.unit b.unit) ∙ behind_units r o a.unit b.unit a.form b.form (a.unit == b.unit) refl (a.token == b.token)

  arrow_moved : (a b : Option Occ) → arrow_of (place r a) (place r b) ≡ arrows (arrow_of a b)
  arrow_moved None b = refl
  arrow_moved (Some a) None = refl
  arrow_moved (Some a) (Some b) = refl

  bound_moved : (b : Bound) (p : Option Occ) (v : Number) (rest rest' : Option Occ) → rest' ≡ place r rest → bound_here (bound r b) (place r p) (number r v) rest' ≡ place r (bound_here b p v rest)
  bound_moved (LocalNumber w) p v rest rest' e = cond_map (place r) p rest (number_moved r o w v) refl e
  bound_moved (Definition u n) p v rest rest' e = e

  local_moved : (ls : List CoreLeaf) (v : Number) → local_at (map (leaf_as r) ls) (number r v) ≡ place r (local_at ls v)
  local_moved [] v = refl
  local_moved (Binds b ∷ ls) v = bound_moved b.bound b.occ v (local_at ls v) (local_at (map (leaf_as r) ls) (number r v)) (local_moved ls v)
  local_moved (Uses t ∷ ls) v = local_moved ls v
  local_moved (Assigns t ∷ ls) v = local_moved ls v
  local_moved (Quotes p ∷ ls) v = local_moved ls v
  local_moved (Defines m ∷ ls) v = local_moved ls v

  occ_in_moved : (d : Option Defined) → occ_in (option_map (defined_as r) d) ≡ place r (occ_in d)
  occ_in_moved None = refl
  occ_in_moved (Some d) = refl

  is_occ_moved : (a : Occ) (b : Option Occ) → is_occ (occ_at r a) (place r b) ≡ is_occ a b
  is_occ_moved a None = refl
  is_occ_moved a (Some b) = occ_moved a b

  any_mapped : {X Y : Type 0} (g : X → Y) (test : X → Bool) (test' : Y → Bool) → ((x : X) → test' (g x) ≡ test x) → (xs : List X) → any test' (map g xs) ≡ any test xs
  any_mapped g test test' h [] = refl
  any_mapped g test test' h (x ∷ xs) = let a = h x in let b = any_mapped g test test' h xs in λ j. a j || b j

  leaf_at_moved : (a : Occ) (l : CoreLeaf) → leaf_at (occ_at r a) (leaf_as r l) ≡ leaf_at a l
  leaf_at_moved a (Binds b) = is_occ_moved a b.occ
  leaf_at_moved a (Uses t) = is_occ_moved a t.occ
  leaf_at_moved a (Assigns t) = is_occ_moved a t.occ
  leaf_at_moved a (Quotes p) = is_occ_moved a p
  leaf_at_moved a (Defines m) = refl

  -- arrows from pattern variables
  variable_moved : (vs : List (Variable Ident)) (i : Ident) (p : Option Occ) → variable_arrow (map (variable_map Ident Ident (change r)) vs) (ident r i) (place r p) ≡ arrows (variable_arrow vs i p)
  variable_moved [] i p = refl
  variable_moved (v ∷ vs) i p = cond_map arrows (arrow_of v.variable.occ p) (variable_arrow vs i p) (ident_moved r o v.variable.name i) (arrow_moved v.variable.occ p) (variable_moved vs i p)

  module _ (vs : List (Variable Ident)) where
    abbrev vs' : List (Variable Ident)
    vs' = map (variable_map Ident Ident (change r)) vs

    mutual
      template_moved : (t : Tree Ident) → template_arrows vs' (move_tree (change r) t) ≡ arrows (template_arrows vs t)
      template_moved (name i p) = variable_moved vs i p
      template_moved (atom a p) = refl
      template_moved (list ts tail p) = append_map (arrow_as r) (template_arrows_all vs ts) (template_arrows_tail vs tail) (templates_moved ts) (template_tail_moved tail)
      template_moved (vector ts p) = templates_moved ts

      templates_moved : (ts : Trees Ident) → template_arrows_all vs' (move_trees (change r) ts) ≡ arrows (template_arrows_all vs ts)
      templates_moved no_trees = refl
      templates_moved (tree t ts) = append_map (arrow_as r) (template_arrows vs t) (template_arrows_all vs ts) (template_moved t) (templates_moved ts)

      template_tail_moved : (tail : Tail Ident) → template_arrows_tail vs' (move_tail (change r) tail) ≡ arrows (template_arrows_tail vs tail)
      template_tail_moved proper = refl
      template_tail_moved (dotted t) = template_moved t

  names_told : Moves (change r) ident_names ident_names
  names_told = record { same = ident_moved r o; strip = symbol_moved r }

  pub rules_moved : (rs : Rules Ident) (xs : List (Rule Ident)) → rule_arrows (move_rules (change r) rs) (map (move_rule (change r)) xs) ≡ arrows (rule_arrows rs xs)
  rules_moved rs [] = refl
  rules_moved rs (x ∷ xs) =
      append_map (arrow_as r) (template_arrows (pattern_variables ident_names rs x) x.template) (rule_arrows rs xs)
      (ap (λ vs. template_arrows vs (move_tree (change r) x.template)) (pattern_variables-map Ident Ident (change r) ident_names ident_names names_told rs x) ∙ template_moved (pattern_variables ident_names rs x) x.template) (rules_moved rs xs)

  targets_moved : (ls : List CoreLeaf) → core_targets (map (leaf_as r) ls) ≡ map (target r) (core_targets ls)
  targets_moved [] = refl
  targets_moved (Binds b ∷ ls) = targets_moved ls
  targets_moved (Uses t ∷ ls) = ap (λ ts. target r t ∷ ts) (targets_moved ls)
  targets_moved (Assigns t ∷ ls) = ap (λ ts. target r t ∷ ts) (targets_moved ls)
  targets_moved (Quotes p ∷ ls) = targets_moved ls
  targets_moved (Defines m ∷ ls) = targets_moved ls

  module _ (b b' : Meaning → Option Occ) (same_binder : (m : Meaning) → b' (meaning r m) ≡ place r (b m)) where
    one_arrow : (m : Meaning) (p : Option Occ) → arrow_of (b' (meaning r m)) (place r p) ≡ arrows (arrow_of (b m) p)
    one_arrow m p = ap (λ q. arrow_of q (place r p)) (same_binder m) ∙ arrow_moved (b m) p

    target_arrows_moved : (ts : List Target) → target_arrows b' (map (target r) ts) ≡ arrows (target_arrows b ts)
    target_arrows_moved [] = refl
    target_arrows_moved (t ∷ ts) = append_map (arrow_as r) (arrow_of (b t.meaning) t.occ) (target_arrows b ts) (one_arrow t.meaning t.occ) (target_arrows_moved ts)

    name_arrows_moved : (ns : List NameUse) → name_arrows b' (map (name_use_as r) ns) ≡ arrows (name_arrows b ns)
    name_arrows_moved [] = refl
    name_arrows_moved (n ∷ ns) = append_map (arrow_as r) (arrow_of (b n.meaning) n.occ) (name_arrows b ns) (one_arrow n.meaning n.occ) (name_arrows_moved ns)

    module _ (live live' : Option Occ → Bool) (same_live : (p : Option Occ) → live' (place r p) ≡ live p) where
      leaf_arrows_moved : (ls : List RuleLeaf) → leaf_arrows b' live' (map (rule_leaf r) ls) ≡ arrows (leaf_arrows b live ls)
      leaf_arrows_moved [] = refl
      leaf_arrows_moved (l ∷ ls) =
          append_map (arrow_as r) (cond (l.literal || not (live l.target.occ)) (arrow_of (b l.target.meaning) l.target.occ) []) (leaf_arrows b live ls)
          (cond_map arrows (arrow_of (b l.target.meaning) l.target.occ) [] (ap (λ t. l.literal || not t) (same_live l.target.occ)) (one_arrow l.target.meaning l.target.occ) refl) (leaf_arrows_moved ls)

      macro_arrows_moved : (ls : List CoreLeaf) → macro_arrows b' live' (map (leaf_as r) ls) ≡ arrows (macro_arrows b live ls)
      macro_arrows_moved [] = refl
      macro_arrows_moved (Binds x ∷ ls) = macro_arrows_moved ls
      macro_arrows_moved (Uses t ∷ ls) = macro_arrows_moved ls
      macro_arrows_moved (Assigns t ∷ ls) = macro_arrows_moved ls
      macro_arrows_moved (Quotes p ∷ ls) = macro_arrows_moved ls
      macro_arrows_moved (Defines m ∷ ls) =
          append_map (arrow_as r) (rule_arrows m.rules m.rules.rules ++ leaf_arrows b live m.leaves) (macro_arrows b live ls)
          (append_map (arrow_as r) (rule_arrows m.rules m.rules.rules) (leaf_arrows b live m.leaves) (rules_moved m.rules m.rules.rules) (leaf_arrows_moved m.leaves)) (macro_arrows_moved ls)

  -- the arrows of leaves, keywords and names
  pub arrows_renumbered : (ls : List CoreLeaf) (ks : List Target) (ns : List NameUse) (table table' : Table) → TablesMove r table table'
      → arrows_with (map (leaf_as r) ls) (map (target r) ks) (map (name_use_as r) ns) table' ≡ map (arrow_as r) (arrows_with ls ks ns table)
  arrows_renumbered ls ks ns table table' l =
      let b = binder_of ls table in let b' = binder_of (map (leaf_as r) ls) table' in
      append_map (arrow_as r) (target_arrows b (core_targets ls ++ ks) ++ name_arrows b ns) (macro_arrows b (is_live_at ls ks ns) ls)
      (append_map (arrow_as r) (target_arrows b (core_targets ls ++ ks)) (name_arrows b ns)
      (ap (target_arrows b') (append_map (target r) (core_targets ls) ks (targets_moved ls) refl) ∙ target_arrows_moved b b' binders_same (core_targets ls ++ ks)) (name_arrows_moved b b' binders_same ns))
      (macro_arrows_moved b b' binders_same (is_live_at ls ks ns) (is_live_at (map (leaf_as r) ls) (map (target r) ks) (map (name_use_as r) ns)) live_same ls)
    where
      binders_same : (m : Meaning) → binder_of (map (leaf_as r) ls) table' (meaning r m) ≡ place r (binder_of ls table m)
      binders_same (Local v) = local_moved ls v
      binders_same (Global u i) = ap occ_in (l u i) ∙ occ_in_moved (defined_in table u i)
      binders_same (Standard s) = refl
      binders_same (Free s) = refl

      live_same : (p : Option Occ) → is_live_at (map (leaf_as r) ls) (map (target r) ks) (map (name_use_as r) ns) (place r p) ≡ is_live_at ls ks ns p
      live_same None = refl
      live_same (Some p) =
          let x = any_mapped (leaf_as r) (leaf_at p) (leaf_at (occ_at r p)) (leaf_at_moved p) ls in
          let y = any_mapped (target r) (λ (t : Target). is_occ p t.occ) (λ (t : Target). is_occ (occ_at r p) t.occ) (λ t. is_occ_moved p t.occ) ks in
          let z = any_mapped (name_use_as r) (λ (n : NameUse). is_occ p n.occ) (λ (n : NameUse). is_occ (occ_at r p) n.occ) (λ n. is_occ_moved p n.occ) ns in
          λ j. x j || (y j || z j)
