-- A note more stands for a question more; and what is noted of an identifier by what the form's definitions have to do with it.
use Rattle.std.proofs.Common.{◌≡◌, ◌⊎◌, ℕ, ◌+◌, List, [], ◌∷◌, ◌++◌, append_assoc, length, Bool, true, false, cond, refl, sym, ap, ◌∙◌, subst, inl, inr, arith}
use Rattle.std.specs.Prelude.{◌||◌, Option}
use Rattle.std.specs.BTreeSet.{BTreeSet}
use Rattle.std.specs.List.{Contains}
use Rattle.std.proofs.lemmas.List.Elements.{Contains-append_left, Contains-append_right, Contains-append_cases, Contains-push, Contains-push_cases}
use Rattle.scheme_model.specs.Ident.{Ident as Identifier}
use Rattle.scheme_model.specs.Questions.{Question}
use Rattle.scheme_model.specs.Order.{Transformer}
use Rattle.scheme_model.specs.ScopedExpansion.{Frames}
use Rattle.syntax_tree.specs.Names.{Names}
use Rattle.scheme_model.specs.Meaning.{Meaning, same_meaning}
use Rattle.scheme_model.specs.Questions.{LooksUp, UsesRules, Compares, IsAssigned, Answer, Means, Expands, Says}
use Rattle.question_laws.specs.Noted.{before_uses, is_defined_in, defines_within, answers_alone, compares_alone}
use Rattle.form_notes.specs.Noted.{Noted, Since, began, is_local, at_start, noted_as, looked_up, compared, is_own, rules_used, assigned_as}
use Rattle.form_notes.specs.Standing.{IsNote, HaveNotes, OwnStands, NotingStands, Adds, stood, IsAsked, RisesTo, InOrder}
use Rattle.form_notes.specs.declared.notes.Note as code_note
use Rattle.form_notes.specs.declared.noting.Noting as code_noting

-- the first, or one behind it
front_cases : {X : Type 0} (x : X) (xs : List X) (y : X) → Contains (x ∷ xs) y → (x ≡ y) ⊎ Contains xs y
front_cases x xs y h =
    elim (Contains-append_cases (x ∷ []) xs y h) [
      | inl here ↦ elim (Contains-push_cases [] x y here) [ inl none ↦ absurd (let lt = none.1 in omega arith) | inr same ↦ inl same ]
      | inr behind ↦ inr behind
    ]

in_front : {X : Type 0} (x : X) (xs : List X) → Contains (x ∷ xs) x
in_front x xs = Contains-append_left (x ∷ []) xs x (Contains-push [] x)

no_more : (n m : ℕ) → m ≡ 0 → n + m ≡ n
no_more n m none = omega (arith, none)

rises_more : (xs : List code_note.Note) (x : code_note.Note) (a b : ℕ) → RisesTo xs a b → IsAsked x.question b x.behind → RisesTo (xs ++ x ∷ []) a (b + stood x.question)
rises_more [] x a b h is = (subst (λ (n : ℕ). IsAsked x.question n x.behind) (sym h) is, ap (λ (n : ℕ). n + stood x.question) h)
rises_more (y ∷ xs) x a b h is = (h.0, rises_more xs x (a + stood y.question) b h.1 is)

-- a note that the form's definitions have a part in, or not
pub part_at : (part : Bool) (n made : ℕ) → n ≡ cond part made 0 → (n ≡ 0) ⊎ (n ≡ made)
part_at true n made is = inr is
part_at false n made is = inl is

module _ (names : Names) (r : Since) where
  -- one note more
  pub have_more : (xs : List code_note.Note) (ms : List Noted) (x : code_note.Note) (m : Noted) → IsNote names r x m → HaveNotes names r xs ms → HaveNotes names r (xs ++ x ∷ []) (m ∷ ms)
  have_more xs ms x m is h = record {
    all = λ n there.
        elim (front_cases m ms n there) [
          | inl same ↦ (x, Contains-push xs x, subst (λ (k : Noted). IsNote names r x k) same is)
          | inr before ↦ (let p = h.all n before in (p.0, Contains-append_left xs (x ∷ []) p.0 p.1, p.2))
        ];
    alone = λ y there.
        elim (Contains-push_cases xs x y there) [
          | inl before ↦ (let p = h.alone y before in (p.0, Contains-append_right (m ∷ []) ms p.0 p.1, p.2))
          | inr same ↦ (m, in_front m ms, subst (λ (k : code_note.Note). IsNote names r k m) same is)
        ];
  }

  -- and it is in order
  pub order_more : (first made : ℕ) (xs ys : List code_note.Note) (x : code_note.Note) → ys ≡ xs ++ x ∷ [] → IsAsked x.question made x.behind → InOrder first xs made → InOrder first ys (made + stood x.question)
  order_more first made xs ys x is asked o = record {
    before = o.before;
    since = o.since ++ x ∷ [];
    split = is ∙ (ap (λ (zs : List code_note.Note). zs ++ x ∷ []) o.split ∙ append_assoc o.before o.since (x ∷ []));
    count = o.count;
    rises = rises_more o.since x 0 made o.rises asked;
  }

  pub adds : (old new : code_noting.Noting) (ms ns : List Noted) (x : code_note.Note) → Adds old new x → stood x.question ≡ 0 → NotingStands names old r ms
      → (OwnStands names old.own r → (m : Noted) × IsNote names r x m × (m ∷ ms ≡ ns) × IsAsked x.question (length r.own) x.behind) → NotingStands names new r ns
  adds old new ms ns x a none h one = record {
    since = record {
      unit = ap (λ (n : code_noting.Noting). n.unit) a.rest ∙ h.since.unit;
      form = ap (λ (n : code_noting.Noting). n.form) a.rest ∙ h.since.form;
      uses = ap (λ (n : code_noting.Noting). n.begun) a.rest ∙ h.since.uses;
    };
    stands = λ kept.
        let p = a.added kept in
        let s = h.stands p.0 in
        let m = one s.own in
        record {
          own = subst (λ (own : BTreeSet ℕ). OwnStands names own r) (sym (ap (λ (n : code_noting.Noting). n.own) a.rest)) s.own;
          notes = subst (λ (xs : List code_note.Note). HaveNotes names r xs ns) (sym p.1) (subst (HaveNotes names r (old.notes ++ x ∷ [])) m.2 (have_more old.notes ms x m.0 m.1 s.notes));
          order = subst (λ (k : ℕ). InOrder k new.notes (length r.own)) (sym (ap (λ (n : code_noting.Noting). n.first) a.rest))
              (subst (InOrder old.first new.notes) (no_more (length r.own) (stood x.question) none) (order_more old.first (length r.own) old.notes new.notes x p.1 m.3 s.order));
        };
  }

  -- nothing is noted
  pub stays : (x : code_noting.Noting) (ms ns : List Noted) → NotingStands names x r ms → (OwnStands names x.own r → ms ≡ ns) → NotingStands names x r ns
  stays x ms ns h same = record {
    since = h.since;
    stands = λ kept. let s = h.stands kept in record { own = s.own; notes = subst (HaveNotes names r x.notes) (same s.own) s.notes; order = s.order };
  }

-- ---- what is noted

abbrev pub asked_as : Since → Bool → Identifier → Identifier
asked_as r part i = cond part i (before_uses (began r) i)

-- one note where the form doesn't answer alone
abbrev pub one_note : Since → Bool → Question → Answer → Noted
one_note r part q a = record { behind = cond part (length r.own) 0; question = q; answer = a }

module _ (r : Since) (ms : List Noted) where
  pub local_lookup : (i : Identifier) (m : Meaning) (k : Bool) → true ≡ is_local m → ms ≡ looked_up r i m k ++ ms
  local_lookup i m k e = ap (λ b. cond b [] (noted_as r (answers_alone (began r) r.own i) (defines_within r.own i) (LooksUp i) (LooksUp (before_uses (began r) i)) (Means m k)) ++ ms) e

  pub own_lookup : (i : Identifier) (m : Meaning) (k : Bool) → false ≡ is_local m → true ≡ answers_alone (began r) r.own i → ms ≡ looked_up r i m k ++ ms
  own_lookup i m k e d =
      (λ j. cond (d j) [] (cond (defines_within r.own i) (record { behind = length r.own; question = LooksUp i; answer = Means m k } ∷ []) (at_start (LooksUp (before_uses (began r) i)) (Means m k))) ++ ms)
      ∙ ap (λ b. cond b [] (noted_as r (answers_alone (began r) r.own i) (defines_within r.own i) (LooksUp i) (LooksUp (before_uses (began r) i)) (Means m k)) ++ ms) e

  one_lookup : (part : Bool) (i : Identifier) (a : Answer) → one_note r part (LooksUp (asked_as r part i)) a ∷ ms ≡ noted_as r false part (LooksUp i) (LooksUp (before_uses (began r) i)) a ++ ms
  one_lookup true i a = refl
  one_lookup false i a = refl

  pub some_lookup : (i : Identifier) (m : Meaning) (k : Bool) → false ≡ is_local m → false ≡ answers_alone (began r) r.own i →
      one_note r (defines_within r.own i) (LooksUp (asked_as r (defines_within r.own i) i)) (Means m k) ∷ ms ≡ looked_up r i m k ++ ms
  some_lookup i m k e d =
      one_lookup (defines_within r.own i) i (Means m k)
      ∙ (λ j. cond (e j) [] (noted_as r (d j) (defines_within r.own i) (LooksUp i) (LooksUp (before_uses (began r) i)) (Means m k)) ++ ms)

  module _ (l i : Identifier) (m n : Meaning) where
    abbrev part : Bool
    part = defines_within r.own l || defines_within r.own i

    abbrev by_parts : Bool → Bool → Bool → List Noted
    by_parts first second alone =
        cond (first || second) [] (noted_as r alone part (Compares l i) (Compares (before_uses (began r) l) (before_uses (began r) i)) (Says (same_meaning m n))) ++ ms

    pub first_local : true ≡ is_local m → ms ≡ compared r l i m n ++ ms
    first_local e = ap (λ b. by_parts b (is_local n) (compares_alone (began r) r.own l i)) e

    pub second_local : false ≡ is_local m → true ≡ is_local n → ms ≡ compared r l i m n ++ ms
    second_local d e = λ j. by_parts (d j) (e j) (compares_alone (began r) r.own l i)

    pub own_comparison : false ≡ is_local m → false ≡ is_local n → true ≡ compares_alone (began r) r.own l i → ms ≡ compared r l i m n ++ ms
    own_comparison d e f = λ j. by_parts (d j) (e j) (f j)

    one_comparison : (b : Bool) → one_note r b (Compares (asked_as r b l) (asked_as r b i)) (Says (same_meaning m n)) ∷ ms ≡ noted_as r false b (Compares l i) (Compares (before_uses (began r) l) (before_uses (began r) i)) (Says (same_meaning m n)) ++ ms
    one_comparison true = refl
    one_comparison false = refl

    pub some_comparison : false ≡ is_local m → false ≡ is_local n → false ≡ compares_alone (began r) r.own l i →
        one_note r part (Compares (asked_as r part l) (asked_as r part i)) (Says (same_meaning m n)) ∷ ms ≡ compared r l i m n ++ ms
    some_comparison d e f = one_comparison part ∙ (λ j. by_parts (d j) (e j) (f j))

  pub own_rules : (m : Meaning) (t : Option (Transformer Frames Identifier)) → true ≡ is_own r m → ms ≡ rules_used r m t ++ ms
  own_rules m t e = ap (λ b. cond b [] (at_start (UsesRules m) (Expands t)) ++ ms) e

  pub some_rules : (m : Meaning) (t : Option (Transformer Frames Identifier)) → false ≡ is_own r m → record { behind = 0; question = UsesRules m; answer = Expands t } ∷ ms ≡ rules_used r m t ++ ms
  some_rules m t e = ap (λ b. cond b [] (at_start (UsesRules m) (Expands t)) ++ ms) e

  pub own_assigned : (i : Identifier) (b : Bool) → true ≡ is_defined_in r.own r.unit i → ms ≡ assigned_as r i b ++ ms
  own_assigned i b e = ap (λ d. cond d [] (at_start (IsAssigned i) (Says b)) ++ ms) e

  pub some_assigned : (i : Identifier) (b : Bool) → false ≡ is_defined_in r.own r.unit i → record { behind = 0; question = IsAssigned i; answer = Says b } ∷ ms ≡ assigned_as r i b ++ ms
  some_assigned i b e = ap (λ d. cond d [] (at_start (IsAssigned i) (Says b)) ++ ms) e
