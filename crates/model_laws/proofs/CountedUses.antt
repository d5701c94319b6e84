-- Heads, targets, macro uses and counts: what the third side of counted expansion tells of them, each other side tells.
use Rattle.std.proofs.Common.{◌≡◌, ℕ, zero, suc, ◌+◌, ◌-◌, List, [], ◌∷◌, map, Bool, true, false, cond, Option, Some, None, refl, sym, ap, ◌∙◌, subst}
use Rattle.std.specs.Prelude.{nat_lt, nat_le}
use Rattle.scheme_model.specs.declared.Occ.{Occ}
use Rattle.scheme_model.specs.Identifiers.{Number}
use Rattle.scheme_model.specs.Ident.{Ident, Inserted}
use Rattle.scheme_model.specs.Trees.{Trees, Tail, map_trees, map_tail}
use Rattle.scheme_model.specs.ExpansionFaults.{Named, named_map, NodeBudget, UseBudget}
use Rattle.scheme_model.specs.Keywords.{core_named, auxiliary_named}
use Rattle.scheme_model.specs.Meaning.{Meaning, Local, Global, Standard, Free, Head, IsCore, IsAuxiliary, IsMacro, IsNone, macro_or_none, standard_head, head_as, same_meaning}
use Rattle.scheme_model.specs.RulesShape.{rules_map, rule_map, role_of, dots_of, option_map}
use Rattle.scheme_model.specs.Matching.{Chosen, matcher, first_match, compared}
use Rattle.scheme_model.specs.Cores.{Target}
use Rattle.scheme_model.specs.Steps.{Step, ◌>>=◌, done, fails}
use Rattle.scheme_model.specs.Order.{Here, WaitingUse, Transformer, Note, Compared, is_some, target_of, head_of, counting, comparisons, used, use_of, meet_waiting, meet_all, max_uses, max_nodes}
use Rattle.scheme_model.specs.Expression.{node}
use Rattle.scheme_model.specs.Substitution.{use_map, note_map}
use Rattle.scheme_model.specs.ScopedExpansion.{Frames, FramedIdent, ScopedState, next_number, means_at, macro_at}
use Rattle.scheme_model.specs.Renaming.{chosen_map, pair_map}
use Rattle.scheme_model.proofs.RenamingLaws.{Finds, finds, map_after, map_turned}
use Rattle.scheme_model.proofs.RulesLaws.{role_of-map, dots_of-map}
use Rattle.scheme_model.proofs.MatchLaws.{first_match-map}
use Rattle.scheme_model.proofs.BuildLaws.{build-map}
use Rattle.scheme_model.proofs.CompareLaws.{compared-map}
use Rattle.model_laws.proofs.IdentKinds.{rules_kind, instance_map}
use Rattle.model_laws.proofs.FrameLeaves.{Held}
use Rattle.model_laws.proofs.FrameHeads.{IfMacro, HeadOf, head_is}
use Rattle.model_laws.proofs.CountedOps.{Setting, Side, B, D, T, ident, at, names_over, identifiers, told_names, insert_if, transformer_map, lift, transformer_if, over, side, Goes, goes, goes_at, goes_bind, goes_read}

head_same : (f g : Meaning → Bool) (m : Meaning) → f m ≡ g m → head_as f m ≡ head_as g m
head_same f g (Local v) e = ap (λ t. macro_or_none t (Local v)) e
head_same f g (Global u i) e = ap (λ t. macro_or_none t (Global u i)) e
head_same f g (Standard s) e = ap (λ t. standard_head (core_named s) (auxiliary_named s) t (Standard s)) e
head_same f g (Free s) e = refl

some_mapped : {X Y : Type 0} (h : X → Y) (o : Option X) → is_some (option_map h o) ≡ is_some o
some_mapped h None = refl
some_mapped h (Some x) = refl

module _ (c : Setting) (x : Side c) where
  -- ---- macros

  lifted : (o : Option (Transformer Frames Ident)) (h : IfMacro (λ (y : Transformer Frames Ident). c.around y.env × Held rules_kind c.stands y.rules) o) → o ≡ option_map (transformer_map c) (lift c o h)
  lifted None h = refl
  lifted (Some y) h = ap (λ r. Some (record { env = y.env; rules = r })) (sym h.1.same)

  pub transformer_same : (s : T c) (m : Meaning) → c.told m ≡ true → x.transformer s.0 m ≡ option_map (transformer_map c) ((over c).transformer s m)
  transformer_same s m told = x.same_transformer s m told ∙ go (c.told m) refl told
    where
      go : (t : Bool) (e : c.told m ≡ t) → t ≡ true → macro_at s.0.macros m ≡ option_map (transformer_map c) (transformer_if c s m t e)
      go true e d = lifted (macro_at s.0.macros m) (c.macro s.0 s.1 m e)
      go false e d = let q : true ≡ false = sym d in absurd cc

  pub means_told : (e : D c) (s : T c) (i : B c) → c.told (means_at s.0 e.0 i.0) ≡ true
  means_told e s i = c.means s.0 s.1 e.0 e.1 i.0 i.1

  pub head_goes : (e : D c) (s : T c) (i : B c) → head_of (side c x) e.0 s.0 i.0 ≡ head_of (over c) e s i
  head_goes e s i =
      ap (head_as (λ m. is_some (x.transformer s.0 m))) (x.same_means e s i)
      ∙ head_same (λ m. is_some (x.transformer s.0 m)) (λ m. is_some ((over c).transformer s m)) (means_at s.0 e.0 i.0)
      (ap is_some (transformer_same s (means_at s.0 e.0 i.0) (means_told e s i)) ∙ some_mapped (transformer_map c) ((over c).transformer s (means_at s.0 e.0 i.0)))

  -- a macro that a head tells
  abbrev pub ToldHead : Head → Type 0
  ToldHead (IsCore k) = Unit {0}
  ToldHead (IsAuxiliary a) = Unit {0}
  ToldHead (IsMacro m) = c.told m ≡ true
  ToldHead IsNone = Unit {0}

  pub told_head : (e : D c) (s : T c) (i : B c) → ToldHead (head_of (over c) e s i)
  told_head e s i = go (head_of (over c) e s i) (head_is (λ m. is_some ((over c).transformer s m)) (means_at s.0 e.0 i.0))
    where
      go : (h : Head) → HeadOf (means_at s.0 e.0 i.0) h → ToldHead h
      go (IsCore k) q = tt
      go (IsAuxiliary a) q = tt
      go (IsMacro m) q = subst (λ (y : Meaning). c.told y ≡ true) (sym q) (means_told e s i)
      go IsNone q = tt

  pub target_goes : (e : D c) (s : T c) (i : B c) (o : Option Occ) → target_of (side c x) e.0 s.0 i.0 o ≡ target_of (over c) e s i o
  target_goes e s i o = ap (λ m. record { meaning = m; ident = i.0; occ = o }) (x.same_means e s i)

  -- ---- counts

  pub counting_goes : (here : Here) (n : ℕ) (s : T c) → Goes c {V = Unit {0}} {W = Unit {0}} (λ u. u) (counting (over c) here n s) (counting (side c x) here n s.0)
  counting_goes here n s = go (nat_le (s.0.nodes s.0.form + n) max_nodes)
    where
      go : (t : Bool) → Goes c {V = Unit {0}} {W = Unit {0}} (λ u. u) (cond t (done tt ((over c).spend n s)) (fails here NodeBudget s)) (cond t (done tt ((side c x).spend n s.0)) (fails here NodeBudget s.0))
      go true = goes refl
      go false = goes refl

  pub counted_goes : {V W : Type 0} {g : V → W} (here : Here) (n : ℕ) (s : T c) (k : Step (T c) V) (k' : Step ScopedState W) → ((u : T c) → Goes c g (k u) (k' u.0)) → Goes c g (counting (over c) here n s >>= λ u. k) (counting (side c x) here n s.0 >>= λ u. k')
  counted_goes here n s k k' h = goes_bind c (λ u. k) (λ u. k') (counting_goes here n s) (λ v u. h u)

  pub node_goes : {V W : Type 0} {g : V → W} (here : Here) (n depth : ℕ) (s : T c) (parts : ℕ → Step (T c) V) (parts' : ℕ → Step ScopedState W) → ((below : ℕ) (u : T c) → Goes c g (parts below u) (parts' below u.0))
      → Goes c g (node (over c) here n depth parts s) (node (side c x) here n depth parts' s.0)
  node_goes here n zero s parts parts' h = goes refl
  node_goes here n (suc depth) s parts parts' h = counted_goes here n s (parts depth) (parts' depth) (h depth)

  -- ---- uses

  insert_same : (n : Number) → c.use_here n ≡ true → (i : B c) → Inserted i.0 n ≡ (insert_if c i n (c.use_here n) refl).0
  insert_same n h i = go (c.use_here n) refl h
    where
      go : (t : Bool) (e : c.use_here n ≡ t) → t ≡ true → Inserted i.0 n ≡ (insert_if c i n t e).0
      go true e d = refl
      go false e d = let q : true ≡ false = sym d in absurd cc

  module _ (here : Here) (e : D c) (k : Target) (m : Transformer (D c) (B c)) where
    -- the instance of the chosen rule, once the use has begun
    instance_goes : (n : Number) → c.use_here n ≡ true → (t : T c) (o : Chosen (B c) (B c)) → Goes c (instance_map (ident c)) (used (over c) here k m n (Some o) t) (used (side c x) here k (transformer_map c m) n (Some (chosen_map (ident c) (ident c) o)) t.0)
    instance_goes n h t o =
        goes_bind c _ _
        (goes_read c here t (build-map (B c) (B c) Ident Ident (ident c) (ident c) (B c) Ident (ident c) (names_over c) (identifiers c) (told_names c) m.rules (λ i. insert_if c i n (c.use_here n) refl) (λ i. Inserted i n) (insert_same n h) o.rule.template o.match.bindings (max_nodes - t.0.nodes t.0.form)))
        (λ b u. goes refl)

    by_choice : (n : Number) → c.use_here n ≡ true → (t : T c) (o : Option (Chosen (B c) (B c))) (o' : Option (Chosen Ident Ident)) → Finds (chosen_map (ident c) (ident c)) o o'
        → Goes c (instance_map (ident c)) (used (over c) here k m n o t) (used (side c x) here k (transformer_map c m) n o' t.0)
    by_choice n h t None o' (finds d) = goes_at c (ap (λ z. used (side c x) here k (transformer_map c m) n z t.0) d) (goes refl)
    by_choice n h t (Some o) o' (finds d) = goes_at c (ap (λ z. used (side c x) here k (transformer_map c m) n z t.0) d) (instance_goes n h t o)

    module _ (ts : Trees (B c)) (tail : Tail (B c)) (s : T c) where
      abbrev over_chosen : Option (Chosen (B c) (B c))
      over_chosen = first_match (matcher (names_over c) m.rules (λ l j. same_meaning (means_at s.0 m.env.0 l.0) (means_at s.0 e.0 j.0))) m.rules.rules ts tail

      abbrev side_chosen : Option (Chosen Ident Ident)
      side_chosen = first_match (matcher (identifiers c) (rules_map (ident c) m.rules) (λ l j. same_meaning (x.means m.env.0 s.0 l) (x.means e.0 s.0 j))) (map (rule_map (ident c)) m.rules.rules) (map_trees (ident c) ts) (map_tail (ident c) tail)

      chosen_found : Finds (chosen_map (ident c) (ident c)) over_chosen side_chosen
      chosen_found =
          first_match-map (B c) (B c) Ident Ident (ident c) (ident c) (matcher (names_over c) m.rules (λ l j. same_meaning (means_at s.0 m.env.0 l.0) (means_at s.0 e.0 j.0))) (matcher (identifiers c) (rules_map (ident c) m.rules) (λ l j. same_meaning (x.means m.env.0 s.0 l) (x.means e.0 s.0 j)))
          (record { role = role_of-map (B c) Ident (ident c) (names_over c) (identifiers c) (told_names c) m.rules; dots = dots_of-map (B c) Ident (ident c) (names_over c) (identifiers c) (told_names c) m.rules; means = λ p q. (let a = x.same_means m.env s p in let b = x.same_means e s q in λ j. same_meaning (a j) (b j)) }) m.rules.rules ts tail

      pub use_goes : Goes c (instance_map (ident c)) (use_of (over c) here e k m ts tail s) (use_of (side c x) here e.0 k (transformer_map c m) (map_trees (ident c) ts) (map_tail (ident c) tail) s.0)
      use_goes = go (nat_lt (s.0.uses s.0.form) max_uses)
        where
          go : (t : Bool) → Goes c (instance_map (ident c)) (cond t (used (over c) here k m (next_number s.0 s.0.uses) over_chosen ((over c).begin_use m.env s)) (fails here UseBudget s))
              (cond t (used (side c x) here k (transformer_map c m) (next_number s.0 s.0.uses) side_chosen ((side c x).begin_use m.env.0 s.0)) (fails here UseBudget s.0))
          go true = by_choice (next_number s.0 s.0.uses) (c.next_use s.0 s.1) ((over c).begin_use m.env s) over_chosen side_chosen chosen_found
          go false = goes refl

  abbrev compared_as : D c → Transformer (D c) (B c) → T c → Ident × Ident → Note FramedIdent
  compared_as e m s q = Compared (record { frames = m.env.0; ident = q.0 }) (record { frames = e.0; ident = q.1 }) (same_meaning (x.means m.env.0 s.0 q.0) (x.means e.0 s.0 q.1))

  pairs_goes : (e : D c) (m : Transformer (D c) (B c)) (ts : Trees (B c)) (tail : Tail (B c)) (s : T c)
      → map (compared_as e m s) (compared (role_of (identifiers c) (rules_map (ident c) m.rules)) (dots_of (identifiers c) (rules_map (ident c) m.rules)) (rules_map (ident c) m.rules).rules (map_trees (ident c) ts) (map_tail (ident c) tail))
      ≡ map (note_map (at c)) (map (λ (q : B c × B c). Compared (m.env, q.0) (e, q.1) (same_meaning (means_at s.0 m.env.0 q.0.0) (means_at s.0 e.0 q.1.0))) (compared (role_of (names_over c) m.rules) (dots_of (names_over c) m.rules) m.rules.rules ts tail))
  pairs_goes e m ts tail s =
      ap (map (compared_as e m s)) (compared-map (B c) (B c) Ident Ident (ident c) (ident c) (role_of (names_over c) m.rules) (role_of (identifiers c) (rules_map (ident c) m.rules)) (role_of-map (B c) Ident (ident c) (names_over c) (identifiers c) (told_names c) m.rules)
      (dots_of (names_over c) m.rules) (dots_of (identifiers c) (rules_map (ident c) m.rules)) (dots_of-map (B c) Ident (ident c) (names_over c) (identifiers c) (told_names c) m.rules) m.rules.rules ts tail)
      ∙ map_turned (compared_as e m s) (pair_map (ident c) (ident c)) (note_map (at c)) (λ (q : B c × B c). Compared (m.env, q.0) (e, q.1) (same_meaning (means_at s.0 m.env.0 q.0.0) (means_at s.0 e.0 q.1.0)))
      (λ q. let a = x.same_means m.env s q.0 in let b = x.same_means e s q.1 in λ j. Compared (record { frames = m.env.0; ident = q.0.0 }) (record { frames = e.0; ident = q.1.0 }) (same_meaning (a j) (b j)))
      (compared (role_of (names_over c) m.rules) (dots_of (names_over c) m.rules) m.rules.rules ts tail)

  pub comparisons_goes : (e : D c) (m : Transformer (D c) (B c)) (ts : Trees (B c)) (tail : Tail (B c)) (s : T c)
      → comparisons (side c x) e.0 (transformer_map c m) (map_trees (ident c) ts) (map_tail (ident c) tail) s.0 ≡ map (note_map (at c)) (comparisons (over c) e m ts tail s)
  comparisons_goes e m ts tail s = go (nat_lt (s.0.uses s.0.form) max_uses)
    where
      go : (t : Bool) → cond t (map (compared_as e m s) (compared (role_of (identifiers c) (rules_map (ident c) m.rules)) (dots_of (identifiers c) (rules_map (ident c) m.rules)) (rules_map (ident c) m.rules).rules (map_trees (ident c) ts) (map_tail (ident c) tail))) []
          ≡ map (note_map (at c)) (cond t (map (λ (q : B c × B c). Compared (m.env, q.0) (e, q.1) (same_meaning (means_at s.0 m.env.0 q.0.0) (means_at s.0 e.0 q.1.0))) (compared (role_of (names_over c) m.rules) (dots_of (names_over c) m.rules) m.rules.rules ts tail)) [])
      go true = pairs_goes e m ts tail s
      go false = refl

  -- ---- uses that are met

  pub meet_goes : (e : D c) (u : WaitingUse (B c)) (s : T c) → meet_waiting (side c x) e.0 (use_map (ident c) u) s.0 ≡ (meet_waiting (over c) e u s).0
  meet_goes e u s =
      ap (λ (ls : List Target). (side c x).meet_use (record { keyword = u.keyword; literals = ls }) s.0)
      (map_after (λ (y : Named Ident). target_of (side c x) e.0 s.0 y.name y.occ) (named_map (ident c)) (λ (y : Named (B c)). target_of (over c) e s y.name y.occ) (λ y. target_goes e s y.name y.occ) u.literals)

  pub meet_all_goes : (e : D c) (us : List (WaitingUse (B c))) (s : T c) → meet_all (side c x) e.0 (map (use_map (ident c)) us) s.0 ≡ (meet_all (over c) e us s).0
  meet_all_goes e [] s = refl
  meet_all_goes e (u ∷ us) s = ap (meet_all (side c x) e.0 (map (use_map (ident c)) us)) (meet_goes e u s) ∙ meet_all_goes e us (meet_waiting (over c) e u s)
