-- Regions that outlive others, and what their nodes may name.
use Rattle.std.proofs.Common.{◌≡◌, ◌≢◌, ℕ, zero, ◌<◌, List, [], ◌∷◌, ◌++◌, Option, Some, None, refl, sym, ap, ◌∙◌, subst, inl, inr, arith}
use Rattle.std.specs.Prelude.{Contains, unwrap_or}
use Rattle.std.proofs.lemmas.Bool.{cases_eq}
use Rattle.std.proofs.lemmas.List.Elements.{Contains-append_left, Contains-append_right}
use Rattle.std.specs.List.{AllByRecursion}
use Rattle.std.specs.Option.{option_map}
use Rattle.std.specs.FinMap as finite
use Rattle.std.proofs.lemmas.Option.{same_Some}
use Rattle.node_pool.specs.Pools.{HasRanks}
use Rattle.syntax_tree.specs.Nodes.{Shape, Lived, Nodes, parts_of, region_at, KeepsNodes, IsPut}
use Rattle.syntax_tree.specs.Regions.{Forest, Regions, Outlives, itself, behind, with_outer, MayName, MayNameParts, IsClosed, CanRelease, NamesNone, OutlivesNone, ArePartsFirst}
use Rattle.syntax_tree.proofs.Places.{none_some}
use Rattle.syntax_tree.proofs.SeenLaws.{got_here, got_there, gone_there}
use Rattle.syntax_tree.proofs.NodeLaws.{map_some, put_cases, put_keeps}

pub all_map : {A : Type 0} (P Q : A → Type 0) → ((x : A) → P x → Q x) → (xs : List A) → AllByRecursion P xs → AllByRecursion Q xs
all_map P Q f [] h = tt
all_map P Q f (x ∷ xs) h = (f x h.0, all_map P Q f xs h.1)

pub all_both : {A : Type 0} (P Q R : A → Type 0) → ((x : A) → P x → Q x → R x) → (xs : List A) → AllByRecursion P xs → AllByRecursion Q xs → AllByRecursion R xs
all_both P Q R f [] g h = tt
all_both P Q R f (x ∷ xs) g h = (f x g.0 h.0, all_both P Q R f xs g.1 h.1)

-- ---- which regions outlive which

pub outlives_on : (regions : Regions) (a b c : ℕ) → Outlives regions a b → Outlives regions b c → Outlives regions a c
outlives_on regions a b c p itself = p
outlives_on regions a b c p (behind d e outer q at among) = behind d c outer (outlives_on regions a b d p q) at among

-- regions stay, and what outlived them still does
abbrev pub KeepsOuters : Regions → Regions → Type 0
KeepsOuters old new = (c : ℕ) (outer : List ℕ) → finite.get old c ≡ Some outer → (more : List ℕ) × (finite.get new c ≡ Some more) × ((b : ℕ) → Contains outer b → Contains more b)

pub outlives_kept : (old new : Regions) (a c : ℕ) → KeepsOuters old new → Outlives old a c → Outlives new a c
outlives_kept old new a c keeps itself = itself
outlives_kept old new a c keeps (behind b e outer q at among) =
    let p = keeps c outer at in
    behind b c p.0 (outlives_kept old new a b keeps q) p.1 (p.2 b among)

-- one region more
pub outers_opened : (old : Regions) (r : ℕ) → finite.get old r ≡ None → KeepsOuters old (finite.insert old r [])
outers_opened old r free c outer at = (outer, got_there old r [] c (λ e. none_some outer (sym free ∙ ap (finite.get old) (sym e) ∙ at)) ∙ at, λ b h. h)

-- one that outlives a region more
pub outers_more : (old : Regions) (n x : ℕ) → KeepsOuters old (with_outer old x n)
outers_more old n x c outer at =
    elim (cases_eq c n) [
      | inl e ↦
          let had : unwrap_or (finite.get old n) [] ≡ outer = ap (λ (o : Option (List ℕ)). unwrap_or o []) (ap (finite.get old) (sym e) ∙ at) in
          (unwrap_or (finite.get old n) [] ++ x ∷ [], got_here old n (unwrap_or (finite.get old n) [] ++ x ∷ []) c e, λ b among. subst (λ (l : List ℕ). Contains (l ++ x ∷ []) b) (sym had) (Contains-append_left outer (x ∷ []) b among))
      | inr ne ↦ (outer, got_there old n (unwrap_or (finite.get old n) [] ++ x ∷ []) c ne ∙ at, λ b h. h)
    ]

pub outlives_more : (old : Regions) (n x : ℕ) → Outlives (with_outer old x n) x n
outlives_more old n x =
    let outer = unwrap_or (finite.get old n) [] ++ x ∷ [] in
    behind x n outer itself (got_here old n outer n refl) (Contains-append_right (unwrap_or (finite.get old n) []) (x ∷ []) x (zero, omega arith, refl))

-- where a region ends that outlives no other one, what outlives the others still does
pub outlives_left : (old : Regions) (r a c : ℕ) → OutlivesNone old r → c ≢ r → Outlives old a c → Outlives (finite.remove old r) a c
outlives_left old r a c last ne itself = itself
outlives_left old r a c last ne (behind b e outer q at among) =
    behind b c outer (outlives_left old r a b last (λ same. ne (last c (behind r c outer itself at (subst (Contains outer) same among)))) q) (gone_there old r c ne ∙ at) among

-- ---- what nodes may name

pub region_kept : (old new : Nodes) → KeepsNodes old new → (n r : ℕ) → region_at old n ≡ Some r → region_at new n ≡ Some r
region_kept old new keeps n r h =
    let p = map_some (λ (l : Lived). l.region) (finite.get old n) r h in
    ap (option_map (λ (l : Lived). l.region)) (keeps n p.0 p.1) ∙ ap Some p.2

pub names_kept : (old new : Nodes) (before after : Regions) → KeepsNodes old new → ((a b : ℕ) → Outlives before a b → Outlives after a b) →
    (r : ℕ) (s : Shape) → MayNameParts old before r s → MayNameParts new after r s
names_kept old new before after keeps outlives r s h =
    all_map (MayName old before r) (MayName new after r) (λ n p. (p.0, region_kept old new keeps n p.0 p.1, outlives p.0 r p.2)) (parts_of s) h

pub closed_put : (old new : Nodes) (regions : Regions) (n : ℕ) (l : Lived) → IsClosed old regions → IsPut old new n l → MayNameParts old regions l.region l.node → IsClosed new regions
closed_put old new regions n l closed put names m x at =
    let kept : (r : ℕ) (s : Shape) → MayNameParts old regions r s → MayNameParts new regions r s =
    names_kept old new regions regions (put_keeps old new n l put) (λ a b h. h) in
    elim (put_cases old new n l put m x at) as (λ _. MayNameParts new regions x.region x.node) [
      | inl was ↦ kept x.region x.node (closed m x was)
      | inr is ↦ subst (λ (y : Lived). MayNameParts new regions y.region y.node) (sym is.1) (kept l.region l.node names)
    ]

pub closed_regions : (nodes : Nodes) (before after : Regions) → IsClosed nodes before → ((a b : ℕ) → Outlives before a b → Outlives after a b) → IsClosed nodes after
closed_regions nodes before after closed outlives n l at = names_kept nodes nodes before after (λ m x h. h) outlives l.region l.node (closed n l at)

-- what nodes of a region may name, they may name with its parts
pub parts_named : (nodes : Nodes) (regions : Regions) (n r : ℕ) (l : Lived) → IsClosed nodes regions → finite.get nodes n ≡ Some l → MayName nodes regions r n → MayNameParts nodes regions r l.node
parts_named nodes regions n r l closed at h =
    let here : l.region ≡ h.0 = same_Some l.region h.0 (ap (option_map (λ (x : Lived). x.region)) (sym at) ∙ h.1) in
    let out : Outlives regions l.region r = subst (λ (a : ℕ). Outlives regions a r) (sym here) h.2 in
    all_map (MayName nodes regions l.region) (MayName nodes regions r) (λ m p. (p.0, p.1, outlives_on regions p.0 l.region r p.2 out)) (parts_of l.node) (closed n l at)

-- a region that may be let go is named by no node of another
pub letting_go : (f : Forest) (r : ℕ) → IsClosed f.nodes f.regions → CanRelease f r → (n : ℕ) (l : Lived) → finite.get f.nodes n ≡ Some l → l.region ≢ r → NamesNone f.nodes r l.node
letting_go f r closed can n l at ne =
    all_map (MayName f.nodes f.regions l.region) (λ m. region_at f.nodes m ≢ Some r)
    (λ m p lies.
    let same : p.0 ≡ r = same_Some p.0 r (sym p.1 ∙ lies) in
    let out : Outlives f.regions r l.region = subst (λ (a : ℕ). Outlives f.regions a l.region) same p.2 in
    ne (can n l.region (ap (option_map (λ (x : Lived). x.region)) at) out))
    (parts_of l.node) (closed n l at)

-- ---- parts in the same region

pub first_put : (old new : Nodes) (regions : Regions) (n : ℕ) (l : Lived) → ArePartsFirst old → IsClosed old regions → IsPut old new n l → MayNameParts old regions l.region l.node → HasRanks old l.region l.rank → ArePartsFirst new
first_put old new regions n l first closed put names ranks m x at =
    elim (put_cases old new n l put m x at) as (λ _. AllByRecursion (λ p. (k : Lived) → finite.get new p ≡ Some k → k.region ≡ x.region → k.rank < x.rank) (parts_of x.node)) [
      | inl was ↦
          all_both (MayName old regions x.region) (λ p. (k : Lived) → finite.get old p ≡ Some k → k.region ≡ x.region → k.rank < x.rank) (λ p. (k : Lived) → finite.get new p ≡ Some k → k.region ≡ x.region → k.rank < x.rank)
          (λ p named before k got same. before k (old_one p named.0 named.1 k got) same)
          (parts_of x.node) (closed m x was) (first m x was)
      | inr is ↦
          subst (λ (y : Lived). AllByRecursion (λ p. (k : Lived) → finite.get new p ≡ Some k → k.region ≡ y.region → k.rank < y.rank) (parts_of y.node)) (sym is.1)
          (all_map (MayName old regions l.region) (λ p. (k : Lived) → finite.get new p ≡ Some k → k.region ≡ l.region → k.rank < l.rank)
          (λ p named k got same. ranks.below p k (old_one p named.0 named.1 k got) same)
          (parts_of l.node) names)
    ]
  where
    -- at a part's number lives the node that lived there
    old_one : (p a : ℕ) → region_at old p ≡ Some a → (k : Lived) → finite.get new p ≡ Some k → finite.get old p ≡ Some k
    old_one p a lies k got =
        let was = map_some (λ (x : Lived). x.region) (finite.get old p) a lies in
        was.1 ∙ sym (put_keeps old new n l put p was.0 was.1) ∙ got
