-- Where what binds a global meaning stands.
use Rattle.std.proofs.Common.{◌≡◌, ℕ, List, Option, None, Some, refl, ap, ◌∙◌}
use Rattle.std.specs.Option.{option_map}
use Rattle.std.specs.BTreeMap.{get}
use Rattle.scheme_model.specs.Cores.{Target}
use Rattle.scheme_model.specs.Live.{CoreLeaf, NameUse}
use Rattle.scheme_model.specs.Meaning.{Meaning, Local, Global, Standard, Free}
use Rattle.scheme_model.specs.Substitution.{Table, Defined, defined_in}
use Rattle.scheme_model.specs.ProgramArrows.{binder_of, occ_in}
use Rattle.syntax_tree.specs.Meant.{IsMeaning}
use Rattle.syntax_tree.specs.declared.meaning.Meaning.TheVariants as code
use Rattle.syntax_tree.specs.declared.trees.Work.{Work}
use Rattle.program_leaves.specs.declared.sight.Sight.{Sight}
use Rattle.program_leaves.specs.Placed.{global_cmp, place_in}
use Rattle.program_leaves.specs.Sights.{Sees}

defined_place : (d : Option Defined) → place_in (option_map (λ (x : Defined). x.occ) d) ≡ occ_in d
defined_place None = refl
defined_place (Some d) = refl

pub global_law : (work : Work) (s : Sight) (ls : List CoreLeaf) (ks : List Target) (ms : List NameUse) (table : Table) (u n unit form : ℕ) (m : Meaning) → Sees work s ls ks ms table → IsMeaning work.symbols unit form (code.Global u n) m →
    place_in (get global_cmp s.definitions (record { unit = u; ident = n })) ≡ binder_of ls table m
global_law work s ls ks ms table u n unit form (Local v) sees h = absurd h
global_law work s ls ks ms table u n unit form (Global w i) sees h =
    ap place_in (sees.definitions_are u n i h.1) ∙ defined_place (defined_in table u i) ∙ ap (λ (x : ℕ). occ_in (defined_in table x i)) h.0
global_law work s ls ks ms table u n unit form (Standard t) sees h = absurd h
global_law work s ls ks ms table u n unit form (Free t) sees h = absurd h
