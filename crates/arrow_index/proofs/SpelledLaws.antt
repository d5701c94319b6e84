-- The links that the code gathers are those of the definition's program; the order of links.
use Rattle.std.proofs.Common.{◌≡◌, ◌⊎◌, inl, inr, ◌↔◌, ◌<◌, ℕ, zero, suc, List, [], ◌∷◌, ◌++◌, length, get_or, cond, Option, Some, None, refl, sym, ap, ◌∙◌, subst, arith}
use Rattle.std.specs.List.{flat_map}
use Rattle.scheme_model.specs.declared.Occ.{Occ}
use Rattle.scheme_model.specs.Cores.{Target}
use Rattle.scheme_model.specs.Entries.{At}
use Rattle.scheme_model.specs.Live.{CoreLeaf, NameUse}
use Rattle.scheme_model.specs.IncludedUnits.{Placed}
use Rattle.scheme_model.specs.Program.{Program, UnitResult, WholeFault, is_some_fault}
use Rattle.scheme_model.specs.Requirements.{LibraryName}
use Rattle.scheme_model.specs.ProgramArrows.{core_targets, is_live_at}
use Rattle.scheme_model.specs.Substitution.{Table}
use Rattle.scheme_model.specs.Spelling.{Link, links_at, links_to_themselves, target_links, name_links, macro_links, links_with, second_places, second_places_in}
use Rattle.syntax_tree.specs.declared.trees.Work.{Work}
use Rattle.core_tree.specs.Names.{AllMatch}
use Rattle.core_tree.specs.Units.{UnitsStand, unless_broken}
use Rattle.core_tree.specs.declared.units.Unit.{Unit as CodeUnit}
use Rattle.program_leaves.specs.Members.{IsIn}
use Rattle.program_leaves.specs.Sights.{IsNameOf, all_names, all_seconds}
use Rattle.program_leaves.proofs.AddLaws.{part_match}
use Rattle.program_leaves.proofs.MemberLaws.{in_left, in_right, in_either, among}
use Rattle.arrow_index.proofs.LinkLaws.{of_target, targets-append}

abbrev of_name : NameUse → List Link
of_name n = links_at n.occ n.origins

flat_names : (ns : List NameUse) → name_links ns ≡ flat_map of_name ns
flat_names [] = refl
flat_names (n ∷ ns) = ap (λ (q : List Link). of_name n ++ q) (flat_names ns)

abbrev to_itself : Occ → List Link
to_itself o = record { origin = At o; target = o; prefix = [] } ∷ []

flat_themselves : (os : List Occ) → links_to_themselves os ≡ flat_map to_itself os
flat_themselves [] = refl
flat_themselves (o ∷ os) = ap (λ (q : List Link). to_itself o ++ q) (flat_themselves os)

module _ (leaves : List CoreLeaf) (table : Table) (rs : List UnitResult) where
  flat_targets : (ts : List Target) → target_links leaves table rs ts ≡ flat_map (of_target leaves table rs) ts
  flat_targets [] = refl
  flat_targets (t ∷ ts) = ap (λ (q : List Link). of_target leaves table rs t ++ q) (flat_targets ts)

  targets_among : (ts us : List Target) → ((t : Target) → IsIn t ts → IsIn t us) → (a : Link) → IsIn a (target_links leaves table rs ts) → IsIn a (target_links leaves table rs us)
  targets_among ts us g a h = subst (IsIn a) (sym (flat_targets us)) (among (of_target leaves table rs) ts us g a (subst (IsIn a) (flat_targets ts) h))

names_among : (ts us : List NameUse) → ((t : NameUse) → IsIn t ts → IsIn t us) → (a : Link) → IsIn a (name_links ts) → IsIn a (name_links us)
names_among ts us g a h = subst (IsIn a) (sym (flat_names us)) (among of_name ts us g a (subst (IsIn a) (flat_names ts) h))

themselves_among : (ts us : List Occ) → ((t : Occ) → IsIn t ts → IsIn t us) → (a : Link) → IsIn a (links_to_themselves ts) → IsIn a (links_to_themselves us)
themselves_among ts us g a h = subst (IsIn a) (sym (flat_themselves us)) (among to_itself ts us g a (subst (IsIn a) (flat_themselves ts) h))

-- five parts, one after another
abbrev pub parts : List Link → List Link → List Link → List Link → List Link → List Link
parts v w x y z = (((v ++ w) ++ x) ++ y) ++ z

parts_among : (v w x y z v' w' x' y' z' : List Link) (a : Link) → (IsIn a v → IsIn a v') → (IsIn a w → IsIn a w') → (IsIn a x → IsIn a x') → (IsIn a y → IsIn a y') → (IsIn a z → IsIn a z') → IsIn a (parts v w x y z) → IsIn a (parts v' w' x' y' z')
parts_among v w x y z v' w' x' y' z' a f g h k l p = by_last (in_either a (((v ++ w) ++ x) ++ y) z p)
  where
    by_first : IsIn a v ⊎ IsIn a w → IsIn a (v' ++ w')
    by_first (inl q) = in_left a v' w' (f q)
    by_first (inr q) = in_right a v' w' (g q)

    by_third : IsIn a (v ++ w) ⊎ IsIn a x → IsIn a ((v' ++ w') ++ x')
    by_third (inl q) = in_left a (v' ++ w') x' (by_first (in_either a v w q))
    by_third (inr q) = in_right a (v' ++ w') x' (h q)

    by_fourth : IsIn a ((v ++ w) ++ x) ⊎ IsIn a y → IsIn a (((v' ++ w') ++ x') ++ y')
    by_fourth (inl q) = in_left a ((v' ++ w') ++ x') y' (by_third (in_either a (v ++ w) x q))
    by_fourth (inr q) = in_right a ((v' ++ w') ++ x') y' (k q)

    by_last : IsIn a (((v ++ w) ++ x) ++ y) ⊎ IsIn a z → IsIn a (parts v' w' x' y' z')
    by_last (inl q) = in_left a (((v' ++ w') ++ x') ++ y') z' (by_fourth (in_either a ((v ++ w) ++ x) y q))
    by_last (inr q) = in_right a (((v' ++ w') ++ x') ++ y') z' (l q)

module _ (leaves : List CoreLeaf) (keywords : List Target) (names : List NameUse) (table : Table) (rs : List UnitResult) (binders : List Occ) where
  -- the definition's links in five parts
  whole_is : links_with leaves keywords names table rs binders
      ≡ parts (target_links leaves table rs (core_targets leaves)) (target_links leaves table rs keywords) (name_links names) (links_to_themselves binders) (macro_links (is_live_at leaves keywords names) leaves table rs leaves)
  whole_is =
      ap (λ (q : List Link). ((q ++ name_links names) ++ links_to_themselves binders) ++ macro_links (is_live_at leaves keywords names) leaves table rs leaves) (targets-append leaves table rs (core_targets leaves) keywords)

  pub links_law : (found : List Link) (ts : List Target) (ns : List NameUse) (places : List Occ) → ((t : Target) → IsIn t ts ↔ IsIn t keywords) → ((n : NameUse) → IsIn n ns ↔ IsIn n names) → ((o : Occ) → IsIn o places ↔ IsIn o binders) →
      found ≡ parts (target_links leaves table rs (core_targets leaves)) (target_links leaves table rs ts) (name_links ns) (links_to_themselves places) (macro_links (is_live_at leaves keywords names) leaves table rs leaves) →
      (a : Link) → IsIn a found ↔ IsIn a (links_with leaves keywords names table rs binders)
  links_law found ts ns places t n o e a =
      let v = target_links leaves table rs (core_targets leaves) in
      let z = macro_links (is_live_at leaves keywords names) leaves table rs leaves in (
        λ h. subst (IsIn a) (sym whole_is)
            (parts_among v (target_links leaves table rs ts) (name_links ns) (links_to_themselves places) z v (target_links leaves table rs keywords) (name_links names) (links_to_themselves binders) z a (λ q. q)
            (targets_among leaves table rs ts keywords (λ x. (t x).0) a) (names_among ns names (λ x. (n x).0) a) (themselves_among places binders (λ x. (o x).0) a) (λ q. q) (subst (IsIn a) e h)),
        λ h. subst (IsIn a) (sym e)
            (parts_among v (target_links leaves table rs keywords) (name_links names) (links_to_themselves binders) z v (target_links leaves table rs ts) (name_links ns) (links_to_themselves places) z a (λ q. q)
            (targets_among leaves table rs keywords ts (λ x. (t x).1) a) (names_among names ns (λ x. (n x).1) a) (themselves_among binders places (λ x. (o x).1) a) (λ q. q) (subst (IsIn a) whole_is h)),
      )

-- ---- second identifiers of imports' rename pairs

unless_same : (f : Option WholeFault) (os : List Occ) → unless_broken f os ≡ cond (is_some_fault f) [] os
unless_same None os = refl
unless_same (Some f) os = refl

pub seconds_told : (work : Work) (text : LibraryName → List ℕ) (uris : List (List ℕ)) (all : List Placed) (p : Program) (place : ℕ) (cs : List CodeUnit) (rs : List UnitResult) → UnitsStand work text uris all p place cs rs →
    all_seconds cs ≡ second_places_in rs
seconds_told work text uris all p place [] [] h = refl
seconds_told work text uris all p place [] (r ∷ rs) h = absurd h
seconds_told work text uris all p place (c ∷ cs) [] h = absurd h
seconds_told work text uris all p place (c ∷ cs) (r ∷ rs) h =
    let here = flat_map (λ s. second_places s.set) r.unit.specs in
    ap (λ (q : List Occ). q ++ all_seconds cs) (h.0.seconds ∙ unless_same r.fault here) ∙ ap (λ (q : List Occ). cond (is_some_fault r.fault) [] here ++ q) (seconds_told work text uris all p (suc place) cs rs h.1)

-- the same are members with the same behind them
pub same_before : (xs ys zs ws : List Occ) → ((o : Occ) → IsIn o xs ↔ IsIn o ys) → zs ≡ ws → (o : Occ) → IsIn o (xs ++ zs) ↔ IsIn o (ys ++ ws)
same_before xs ys zs ws h e o =
    subst (λ (q : List Occ). IsIn o (xs ++ zs) ↔ IsIn o (ys ++ q)) e (λ g. by xs ys (h o).0 (in_either o xs zs g), λ g. by ys xs (h o).1 (in_either o ys zs g))
  where
    by : (us vs : List Occ) → (IsIn o us → IsIn o vs) → IsIn o us ⊎ IsIn o zs → IsIn o (vs ++ zs)
    by us vs f (inl k) = in_left o vs zs (f k)
    by us vs f (inr k) = in_right o vs zs k

-- ---- names of a unit among those of all

pub names_at : (work : Work) (us : List CodeUnit) (i : ℕ) (u : CodeUnit) (ns : List NameUse) → i < length us → u ≡ get_or us i u → AllMatch (IsNameOf work) (all_names us) ns → (ms : List NameUse) × AllMatch (IsNameOf work) u.names ms
names_at work [] i u ns lt is h = absurd (omega (arith, lt))
names_at work (c ∷ cs) zero u ns lt is h =
    let r = part_match (IsNameOf work) c.names (all_names cs) ns h in
    (r.first, subst (λ (x : CodeUnit). AllMatch (IsNameOf work) x.names r.first) (sym is) r.one)
names_at work (c ∷ cs) (suc i) u ns lt is h = let r = part_match (IsNameOf work) c.names (all_names cs) ns h in names_at work cs i u r.second (omega (arith, lt)) is r.other
