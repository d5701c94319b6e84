-- Links of one after another.
use Rattle.std.proofs.Common.{◌≡◌, ◌+◌, ℕ, List, [], ◌∷◌, ◌++◌, take, Bool, true, false, not, Option, Some, None, refl, sym, ap, ◌∙◌, append_assoc}
use Rattle.std.specs.Prelude.{◌||◌, if◌then◌else◌}
use Rattle.std.proofs.lemmas.List.{append-nil}
use Rattle.scheme_model.specs.declared.Occ.{Occ}
use Rattle.scheme_model.specs.Cores.{Target, RuleLeaf}
use Rattle.scheme_model.specs.Entries.{Origin, At}
use Rattle.scheme_model.specs.Live as live
use Rattle.scheme_model.specs.Live.{CoreLeaf, NameUse, name_places}
use Rattle.scheme_model.specs.Meaning.{Meaning}
use Rattle.scheme_model.specs.Program.{UnitResult}
use Rattle.scheme_model.specs.ProgramArrows.{Arrow, core_targets, rule_arrows}
use Rattle.scheme_model.specs.Substitution.{Table}
use Rattle.scheme_model.specs.Spelling.{Link, links_at, links_to_themselves, arrow_links, target_links, target_origins, name_links, leaf_targets, macro_links}
use Rattle.scheme_model.specs.Trees.{Tree}
use Rattle.syntax_tree.specs.Meant.{IsOrigin, AreOrigins}
use Rattle.syntax_tree.specs.declared.units.Origin as code_origin
use Rattle.core_tree.specs.Names.{AllMatch}
use Rattle.program_leaves.proofs.QuotedLaws.{quoted_none}

pub are_match : (m : Meaning) (os : List code_origin.Origin) (ps : List Origin) → AreOrigins m os ps → AllMatch (IsOrigin m) os ps
are_match m [] [] h = tt
are_match m [] (p ∷ ps) h = absurd h
are_match m (o ∷ os) [] h = absurd h
are_match m (o ∷ os) (p ∷ ps) h = (h.0, are_match m os ps h.1)

pub links-append : (o : Occ) (ps qs : List Origin) → links_at (Some o) (ps ++ qs) ≡ links_at (Some o) ps ++ links_at (Some o) qs
links-append o [] qs = refl
links-append o (p ∷ ps) qs = ap (λ (q : List Link). record { origin = p.source; target = o; prefix = p.prefix } ∷ q) (links-append o ps qs)

pub no_links : (ps : List Origin) → links_at None ps ≡ []
no_links ps = refl

pub themselves-append : (os ps : List Occ) → links_to_themselves (os ++ ps) ≡ links_to_themselves os ++ links_to_themselves ps
themselves-append [] ps = refl
themselves-append (o ∷ os) ps = ap (λ (q : List Link). record { origin = At o; target = o; prefix = [] } ∷ q) (themselves-append os ps)

pub arrows-append : (os ps : List Arrow) → arrow_links (os ++ ps) ≡ arrow_links os ++ arrow_links ps
arrows-append [] ps = refl
arrows-append (o ∷ os) ps = ap (λ (q : List Link). record { origin = At o.binder; target = o.target; prefix = [] } ∷ q) (arrows-append os ps)

pub names-append : (ns ms : List NameUse) → name_links (ns ++ ms) ≡ name_links ns ++ name_links ms
names-append [] ms = refl
names-append (n ∷ ns) ms = ap (λ (q : List Link). links_at n.occ n.origins ++ q) (names-append ns ms) ∙ sym (append_assoc (links_at n.occ n.origins) (name_links ns) (name_links ms))

pub names_more : (ns : List NameUse) (k : ℕ) (n : NameUse) → take (k + 1) ns ≡ take k ns ++ n ∷ [] → name_links (take (k + 1) ns) ≡ name_links (take k ns) ++ links_at n.occ n.origins
names_more ns k n e = ap name_links e ∙ names-append (take k ns) (n ∷ []) ∙ ap (λ (q : List Link). name_links (take k ns) ++ q) (append-nil (links_at n.occ n.origins))

pub core-append : (xs ys : List CoreLeaf) → core_targets (xs ++ ys) ≡ core_targets xs ++ core_targets ys
core-append [] ys = refl
core-append (live.Binds b ∷ xs) ys = core-append xs ys
core-append (live.Uses t ∷ xs) ys = ap (λ (q : List Target). t ∷ q) (core-append xs ys)
core-append (live.Assigns t ∷ xs) ys = ap (λ (q : List Target). t ∷ q) (core-append xs ys)
core-append (live.Quotes o ∷ xs) ys = core-append xs ys
core-append (live.Defines m ∷ xs) ys = core-append xs ys

pub quoted_targets : {A : Type 0} (f : A → Bool) (t : Tree A) → core_targets (name_places f t) ≡ []
quoted_targets f t = quoted_none core_targets core-append refl (λ o. refl) f t

module _ (leaves : List CoreLeaf) (table : Table) (rs : List UnitResult) where
  abbrev pub of_target : Target → List Link
  of_target t = links_at t.occ (target_origins leaves table rs t)

  pub targets-append : (ts us : List Target) → target_links leaves table rs (ts ++ us) ≡ target_links leaves table rs ts ++ target_links leaves table rs us
  targets-append [] us = refl
  targets-append (t ∷ ts) us = ap (λ (q : List Link). of_target t ++ q) (targets-append ts us) ∙ sym (append_assoc (of_target t) (target_links leaves table rs ts) (target_links leaves table rs us))

  pub targets_more : (ts : List Target) (k : ℕ) (t : Target) → take (k + 1) ts ≡ take k ts ++ t ∷ [] → target_links leaves table rs (take (k + 1) ts) ≡ target_links leaves table rs (take k ts) ++ of_target t
  targets_more ts k t e = ap (target_links leaves table rs) e ∙ targets-append (take k ts) (t ∷ []) ∙ ap (λ (q : List Link). target_links leaves table rs (take k ts) ++ q) (append-nil (of_target t))

  pub uses-append : (xs ys : List CoreLeaf) → target_links leaves table rs (core_targets (xs ++ ys)) ≡ target_links leaves table rs (core_targets xs) ++ target_links leaves table rs (core_targets ys)
  uses-append xs ys = ap (target_links leaves table rs) (core-append xs ys) ∙ targets-append (core_targets xs) (core_targets ys)

  module _ (is_live : Option Occ → Bool) where
    leaf_targets-append : (ms ns : List RuleLeaf) → leaf_targets is_live (ms ++ ns) ≡ leaf_targets is_live ms ++ leaf_targets is_live ns
    leaf_targets-append [] ns = refl
    leaf_targets-append (m ∷ ms) ns = by_test (m.literal || not (is_live m.target.occ)) (leaf_targets-append ms ns)
      where
        by_test : (b : Bool) → leaf_targets is_live (ms ++ ns) ≡ leaf_targets is_live ms ++ leaf_targets is_live ns →
            (if b then m.target ∷ leaf_targets is_live (ms ++ ns) else leaf_targets is_live (ms ++ ns)) ≡ (if b then m.target ∷ leaf_targets is_live ms else leaf_targets is_live ms) ++ leaf_targets is_live ns
        by_test true h = ap (λ (q : List Target). m.target ∷ q) h
        by_test false h = h

    abbrev pub static_links : List RuleLeaf → List Link
    static_links ms = target_links leaves table rs (leaf_targets is_live ms)

    pub statics_more : (ms : List RuleLeaf) (k : ℕ) (m : RuleLeaf) → take (k + 1) ms ≡ take k ms ++ m ∷ [] → static_links (take (k + 1) ms) ≡ static_links (take k ms) ++ static_links (m ∷ [])
    statics_more ms k m e = ap static_links e ∙ ap (target_links leaves table rs) (leaf_targets-append (take k ms) (m ∷ [])) ∙ targets-append (leaf_targets is_live (take k ms)) (leaf_targets is_live (m ∷ []))

    pub static_is : (m : RuleLeaf) (b : Bool) → (m.literal || not (is_live m.target.occ)) ≡ b → static_links (m ∷ []) ≡ (if b then of_target m.target else [])
    static_is m b e = ap (λ (q : Bool). target_links leaves table rs (if q then m.target ∷ [] else [])) e ∙ by_test b
      where
        by_test : (q : Bool) → target_links leaves table rs (if q then m.target ∷ [] else []) ≡ (if q then of_target m.target else [])
        by_test true = append-nil (of_target m.target)
        by_test false = refl

    abbrev all_macros : List CoreLeaf → List Link
    all_macros ls = macro_links is_live leaves table rs ls

    pub macros-append : (xs ys : List CoreLeaf) → all_macros (xs ++ ys) ≡ all_macros xs ++ all_macros ys
    macros-append [] ys = refl
    macros-append (live.Binds b ∷ xs) ys = macros-append xs ys
    macros-append (live.Uses t ∷ xs) ys = macros-append xs ys
    macros-append (live.Assigns t ∷ xs) ys = macros-append xs ys
    macros-append (live.Quotes o ∷ xs) ys = macros-append xs ys
    macros-append (live.Defines m ∷ xs) ys =
        let one = arrow_links (rule_arrows m.rules m.rules.rules) in
        let two = static_links m.leaves in
        ap (λ (q : List Link). one ++ two ++ q) (macros-append xs ys) ∙ sym (append_assoc (one ++ two) (all_macros xs) (all_macros ys))

    pub quoted_macros : {A : Type 0} (f : A → Bool) (t : Tree A) → all_macros (name_places f t) ≡ []
    quoted_macros f t = quoted_none all_macros macros-append refl (λ o. refl) f t
