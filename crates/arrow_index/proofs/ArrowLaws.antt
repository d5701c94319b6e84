-- The arrows that the code gathers are the arrows of the definition's program.
use Rattle.std.proofs.Common.{◌≡◌, ◌⊎◌, inl, inr, List, [], ◌∷◌, ◌++◌, Option, Bool, refl, sym, ap, ◌∙◌, subst}
use Rattle.std.specs.List.{flat_map}
use Rattle.std.proofs.lemmas.Grind.{flat_map-append}
use Rattle.scheme_model.specs.declared.Occ.{Occ}
use Rattle.scheme_model.specs.Meaning.{Meaning}
use Rattle.scheme_model.specs.Cores.{Target}
use Rattle.scheme_model.specs.Live as live
use Rattle.scheme_model.specs.Live.{CoreLeaf, NameUse}
use Rattle.scheme_model.specs.ProgramArrows.{Arrow, arrow_of, target_arrows, name_arrows, core_targets, macro_arrows, rule_arrows, leaf_arrows}
use Rattle.program_leaves.specs.Members.{IsIn}
use Rattle.program_leaves.specs.Variables.{all_arrows_at}
use Rattle.program_leaves.proofs.MemberLaws.{in_left, in_right, in_either, among}

abbrev of_target : (Meaning → Option Occ) → Target → List Arrow
of_target binder t = arrow_of (binder t.meaning) t.occ

abbrev of_name : (Meaning → Option Occ) → NameUse → List Arrow
of_name binder n = arrow_of (binder n.meaning) n.occ

pub flat_targets : (binder : Meaning → Option Occ) (ts : List Target) → target_arrows binder ts ≡ flat_map (of_target binder) ts
flat_targets binder [] = refl
flat_targets binder (t ∷ ts) = ap (λ (q : List Arrow). of_target binder t ++ q) (flat_targets binder ts)

pub flat_names : (binder : Meaning → Option Occ) (ns : List NameUse) → name_arrows binder ns ≡ flat_map (of_name binder) ns
flat_names binder [] = refl
flat_names binder (n ∷ ns) = ap (λ (q : List Arrow). of_name binder n ++ q) (flat_names binder ns)

module _ (binder : Meaning → Option Occ) (is_live : Option Occ → Bool) where
  targets_among : (ts us : List Target) → ((t : Target) → IsIn t ts → IsIn t us) → (a : Arrow) → IsIn a (target_arrows binder ts) → IsIn a (target_arrows binder us)
  targets_among ts us g a h = subst (IsIn a) (sym (flat_targets binder us)) (among (of_target binder) ts us g a (subst (IsIn a) (flat_targets binder ts) h))

  names_among : (ts us : List NameUse) → ((t : NameUse) → IsIn t ts → IsIn t us) → (a : Arrow) → IsIn a (name_arrows binder ts) → IsIn a (name_arrows binder us)
  names_among ts us g a h = subst (IsIn a) (sym (flat_names binder us)) (among (of_name binder) ts us g a (subst (IsIn a) (flat_names binder ts) h))

  split_use : (t : Target) (ls : List CoreLeaf) (a : Arrow) → (IsIn a (all_arrows_at binder is_live ls) → IsIn a (target_arrows binder (core_targets ls)) ⊎ IsIn a (macro_arrows binder is_live ls)) →
      IsIn a (of_target binder t) ⊎ IsIn a (all_arrows_at binder is_live ls) → IsIn a (of_target binder t ++ target_arrows binder (core_targets ls)) ⊎ IsIn a (macro_arrows binder is_live ls)
  split_use t ls a f (inl k) = inl (in_left a (of_target binder t) (target_arrows binder (core_targets ls)) k)
  split_use t ls a f (inr k) = behind (f k)
    where
      behind : IsIn a (target_arrows binder (core_targets ls)) ⊎ IsIn a (macro_arrows binder is_live ls) → IsIn a (of_target binder t ++ target_arrows binder (core_targets ls)) ⊎ IsIn a (macro_arrows binder is_live ls)
      behind (inl m) = inl (in_right a (of_target binder t) (target_arrows binder (core_targets ls)) m)
      behind (inr m) = inr m

  use_there : (t : Target) (ls : List CoreLeaf) (a : Arrow) → (IsIn a (target_arrows binder (core_targets ls)) → IsIn a (all_arrows_at binder is_live ls)) → IsIn a (of_target binder t) ⊎ IsIn a (target_arrows binder (core_targets ls)) →
      IsIn a (of_target binder t ++ all_arrows_at binder is_live ls)
  use_there t ls a f (inl k) = in_left a (of_target binder t) (all_arrows_at binder is_live ls) k
  use_there t ls a f (inr k) = in_right a (of_target binder t) (all_arrows_at binder is_live ls) (f k)

  -- the arrows of leaves are those of uses and those of macros
  split : (ls : List CoreLeaf) (a : Arrow) → IsIn a (all_arrows_at binder is_live ls) → IsIn a (target_arrows binder (core_targets ls)) ⊎ IsIn a (macro_arrows binder is_live ls)
  split [] a h = absurd h
  split (live.Binds b ∷ ls) a h = split ls a h
  split (live.Uses t ∷ ls) a h = split_use t ls a (split ls a) (in_either a (of_target binder t) (all_arrows_at binder is_live ls) h)
  split (live.Assigns t ∷ ls) a h = split_use t ls a (split ls a) (in_either a (of_target binder t) (all_arrows_at binder is_live ls) h)
  split (live.Quotes o ∷ ls) a h = split ls a h
  split (live.Defines m ∷ ls) a h =
      by_case (split ls a) (in_either a (rule_arrows m.rules m.rules.rules ++ leaf_arrows binder is_live m.leaves) (all_arrows_at binder is_live ls) h)
    where
      own : List Arrow
      own = rule_arrows m.rules m.rules.rules ++ leaf_arrows binder is_live m.leaves

      by_case : (IsIn a (all_arrows_at binder is_live ls) → IsIn a (target_arrows binder (core_targets ls)) ⊎ IsIn a (macro_arrows binder is_live ls)) →
          IsIn a (rule_arrows m.rules m.rules.rules ++ leaf_arrows binder is_live m.leaves) ⊎ IsIn a (all_arrows_at binder is_live ls) →
          IsIn a (target_arrows binder (core_targets ls)) ⊎ IsIn a ((rule_arrows m.rules m.rules.rules ++ leaf_arrows binder is_live m.leaves) ++ macro_arrows binder is_live ls)
      by_case f (inl k) = inr (in_left a (rule_arrows m.rules m.rules.rules ++ leaf_arrows binder is_live m.leaves) (macro_arrows binder is_live ls) k)
      by_case f (inr k) = behind (f k)
        where
          behind : IsIn a (target_arrows binder (core_targets ls)) ⊎ IsIn a (macro_arrows binder is_live ls) →
              IsIn a (target_arrows binder (core_targets ls)) ⊎ IsIn a ((rule_arrows m.rules m.rules.rules ++ leaf_arrows binder is_live m.leaves) ++ macro_arrows binder is_live ls)
          behind (inl g) = inl g
          behind (inr g) = inr (in_right a (rule_arrows m.rules m.rules.rules ++ leaf_arrows binder is_live m.leaves) (macro_arrows binder is_live ls) g)

  of_uses : (ls : List CoreLeaf) (a : Arrow) → IsIn a (target_arrows binder (core_targets ls)) → IsIn a (all_arrows_at binder is_live ls)
  of_uses [] a h = absurd h
  of_uses (live.Binds b ∷ ls) a h = of_uses ls a h
  of_uses (live.Uses t ∷ ls) a h = use_there t ls a (of_uses ls a) (in_either a (of_target binder t) (target_arrows binder (core_targets ls)) h)
  of_uses (live.Assigns t ∷ ls) a h = use_there t ls a (of_uses ls a) (in_either a (of_target binder t) (target_arrows binder (core_targets ls)) h)
  of_uses (live.Quotes o ∷ ls) a h = of_uses ls a h
  of_uses (live.Defines m ∷ ls) a h = in_right a (rule_arrows m.rules m.rules.rules ++ leaf_arrows binder is_live m.leaves) (all_arrows_at binder is_live ls) (of_uses ls a h)

  of_macros : (ls : List CoreLeaf) (a : Arrow) → IsIn a (macro_arrows binder is_live ls) → IsIn a (all_arrows_at binder is_live ls)
  of_macros [] a h = absurd h
  of_macros (live.Binds b ∷ ls) a h = of_macros ls a h
  of_macros (live.Uses t ∷ ls) a h = in_right a (of_target binder t) (all_arrows_at binder is_live ls) (of_macros ls a h)
  of_macros (live.Assigns t ∷ ls) a h = in_right a (of_target binder t) (all_arrows_at binder is_live ls) (of_macros ls a h)
  of_macros (live.Quotes o ∷ ls) a h = of_macros ls a h
  of_macros (live.Defines m ∷ ls) a h = by_case (of_macros ls a) (in_either a (rule_arrows m.rules m.rules.rules ++ leaf_arrows binder is_live m.leaves) (macro_arrows binder is_live ls) h)
    where
      by_case : (IsIn a (macro_arrows binder is_live ls) → IsIn a (all_arrows_at binder is_live ls)) → IsIn a (rule_arrows m.rules m.rules.rules ++ leaf_arrows binder is_live m.leaves) ⊎ IsIn a (macro_arrows binder is_live ls) →
          IsIn a ((rule_arrows m.rules m.rules.rules ++ leaf_arrows binder is_live m.leaves) ++ all_arrows_at binder is_live ls)
      by_case f (inl k) = in_left a (rule_arrows m.rules m.rules.rules ++ leaf_arrows binder is_live m.leaves) (all_arrows_at binder is_live ls) k
      by_case f (inr k) = in_right a (rule_arrows m.rules m.rules.rules ++ leaf_arrows binder is_live m.leaves) (all_arrows_at binder is_live ls) (f k)

  targets_both : (ts us : List Target) → target_arrows binder (ts ++ us) ≡ target_arrows binder ts ++ target_arrows binder us
  targets_both ts us = flat_targets binder (ts ++ us) ∙ flat_map-append (of_target binder) ts us ∙ (λ j. sym (flat_targets binder ts) j ++ sym (flat_targets binder us) j)

  module _ (ls : List CoreLeaf) (ts us : List Target) (ns ms : List NameUse) where
    abbrev gathered : List Arrow
    gathered = (all_arrows_at binder is_live ls ++ target_arrows binder ts) ++ name_arrows binder ns

    abbrev defined : List Arrow
    defined = (target_arrows binder (core_targets ls ++ us) ++ name_arrows binder ms) ++ macro_arrows binder is_live ls

    in_targets : (a : Arrow) → IsIn a (target_arrows binder (core_targets ls)) ⊎ IsIn a (target_arrows binder us) → IsIn a defined
    in_targets a h =
        in_left a (target_arrows binder (core_targets ls ++ us) ++ name_arrows binder ms) (macro_arrows binder is_live ls)
        (in_left a (target_arrows binder (core_targets ls ++ us)) (name_arrows binder ms) (subst (IsIn a) (sym (targets_both (core_targets ls) us)) (by_case h)))
      where
        by_case : IsIn a (target_arrows binder (core_targets ls)) ⊎ IsIn a (target_arrows binder us) → IsIn a (target_arrows binder (core_targets ls) ++ target_arrows binder us)
        by_case (inl k) = in_left a (target_arrows binder (core_targets ls)) (target_arrows binder us) k
        by_case (inr k) = in_right a (target_arrows binder (core_targets ls)) (target_arrows binder us) k

    pub arrows_there : ((t : Target) → IsIn t ts → IsIn t us) → ((n : NameUse) → IsIn n ns → IsIn n ms) → (a : Arrow) → IsIn a gathered → IsIn a defined
    arrows_there f g a h = by_name (in_either a (all_arrows_at binder is_live ls ++ target_arrows binder ts) (name_arrows binder ns) h)
      where
        by_leaf : IsIn a (target_arrows binder (core_targets ls)) ⊎ IsIn a (macro_arrows binder is_live ls) → IsIn a defined
        by_leaf (inl k) = in_targets a (inl k)
        by_leaf (inr k) = in_right a (target_arrows binder (core_targets ls ++ us) ++ name_arrows binder ms) (macro_arrows binder is_live ls) k

        by_target : IsIn a (all_arrows_at binder is_live ls) ⊎ IsIn a (target_arrows binder ts) → IsIn a defined
        by_target (inl k) = by_leaf (split ls a k)
        by_target (inr k) = in_targets a (inr (targets_among ts us f a k))

        by_name : IsIn a (all_arrows_at binder is_live ls ++ target_arrows binder ts) ⊎ IsIn a (name_arrows binder ns) → IsIn a defined
        by_name (inl k) = by_target (in_either a (all_arrows_at binder is_live ls) (target_arrows binder ts) k)
        by_name (inr k) =
            in_left a (target_arrows binder (core_targets ls ++ us) ++ name_arrows binder ms) (macro_arrows binder is_live ls)
            (in_right a (target_arrows binder (core_targets ls ++ us)) (name_arrows binder ms) (names_among ns ms g a k))

    in_leaves : (a : Arrow) → IsIn a (all_arrows_at binder is_live ls) → IsIn a gathered
    in_leaves a k = in_left a (all_arrows_at binder is_live ls ++ target_arrows binder ts) (name_arrows binder ns) (in_left a (all_arrows_at binder is_live ls) (target_arrows binder ts) k)

    pub arrows_back : ((t : Target) → IsIn t us → IsIn t ts) → ((n : NameUse) → IsIn n ms → IsIn n ns) → (a : Arrow) → IsIn a defined → IsIn a gathered
    arrows_back f g a h = by_macro (in_either a (target_arrows binder (core_targets ls ++ us) ++ name_arrows binder ms) (macro_arrows binder is_live ls) h)
      where
        by_target : IsIn a (target_arrows binder (core_targets ls)) ⊎ IsIn a (target_arrows binder us) → IsIn a gathered
        by_target (inl k) = in_leaves a (of_uses ls a k)
        by_target (inr k) =
            in_left a (all_arrows_at binder is_live ls ++ target_arrows binder ts) (name_arrows binder ns)
            (in_right a (all_arrows_at binder is_live ls) (target_arrows binder ts) (targets_among us ts f a k))

        by_name : IsIn a (target_arrows binder (core_targets ls ++ us)) ⊎ IsIn a (name_arrows binder ms) → IsIn a gathered
        by_name (inl k) = by_target (in_either a (target_arrows binder (core_targets ls)) (target_arrows binder us) (subst (IsIn a) (targets_both (core_targets ls) us) k))
        by_name (inr k) = in_right a (all_arrows_at binder is_live ls ++ target_arrows binder ts) (name_arrows binder ns) (names_among ms ns g a k)

        by_macro : IsIn a (target_arrows binder (core_targets ls ++ us) ++ name_arrows binder ms) ⊎ IsIn a (macro_arrows binder is_live ls) → IsIn a gathered
        by_macro (inl k) = by_name (in_either a (target_arrows binder (core_targets ls ++ us)) (name_arrows binder ms) k)
        by_macro (inr k) = in_leaves a (of_macros ls a k)
