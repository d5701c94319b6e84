-- The first of the waiting units is taken out.
use Rattle.std.proofs.Common.{◌≡◌, ◌≢◌, ℕ, Bool, true, false, cond, length, refl, sym, ap, ◌∙◌, arith}
use Rattle.std.specs.Ordering.{nat_cmp, is_eq, is_gt}
use Rattle.std.specs.List.{list_any}
use Rattle.std.proofs.lemmas.List.{nil_from_length}
use Rattle.std.proofs.lemmas.Bool.Decides.{nat_tests}
use Rattle.std.proofs.lemmas.Map.Keys.{le_from_not_gt}
use Rattle.import_sets.specs.Waiting.{Places, has, Finds, Misses}

-- all that were there and are open still wait, and nothing else came
pub record AreKept (open_at : ℕ → Bool) (first now : Places) : Type 0 where
  pub open_wait : (m : ℕ) → has first m ≡ true → open_at m ≡ true → has now m ≡ true
  pub were_there : (m : ℕ) → has now m ≡ true → has first m ≡ true

abbrev TakesOut : Places → Places → ℕ → Type 0
TakesOut old new p = (q : ℕ) → has new q ≡ cond (is_eq (nat_cmp p q)) false (has old q)

others_stay : (old new : Places) (p : ℕ) → TakesOut old new p → (m : ℕ) → m ≢ p → has old m ≡ true → has new m ≡ true
others_stay old new p out m apart h = out m ∙ ap (λ b. cond b false (has old m)) other ∙ h
  where
    other : is_eq (nat_cmp p m) ≡ false
    other = grind (arith, nat_tests, apart)

were_in : (old new : Places) (p : ℕ) → TakesOut old new p → (m : ℕ) → has new m ≡ true → has old m ≡ true
were_in old new p out m h = go (is_eq (nat_cmp p m)) (sym (out m) ∙ h)
  where
    go : (b : Bool) → cond b false (has old m) ≡ true → has old m ≡ true
    go true e = absurd cc
    go false e = e

pub kept_start : (open_at : ℕ → Bool) (first : Places) → AreKept open_at first first
kept_start open_at first = record { open_wait = λ m h o. h; were_there = λ m h. h }

pub kept_next : (open_at : ℕ → Bool) (first old new : Places) (p : ℕ) → AreKept open_at first old → TakesOut old new p → open_at p ≡ false → AreKept open_at first new
kept_next open_at first old new p k out closed = record {
  open_wait = λ m h o. others_stay old new p out m (apart m o) (k.open_wait m h o);
  were_there = λ m h. k.were_there m (were_in old new p out m h);
}
  where
    apart : (m : ℕ) → open_at m ≡ true → m ≢ p
    apart m o e = let z : false ≡ true = sym closed ∙ ap open_at (sym e) ∙ o in absurd cc

pub found_here : (open_at : ℕ → Bool) (first old new : Places) (p : ℕ) → AreKept open_at first old → TakesOut old new p → has old p ≡ true → ((q : ℕ) → has old q ≡ true → is_gt (nat_cmp p q) ≡ false) → open_at p ≡ true →
    Finds open_at first new p
found_here open_at first old new p k out member least o = record {
  member = k.were_there p member;
  is_open = o;
  first = λ m h i. le_from_not_gt p m (least m (k.open_wait m h i));
  stay = λ m apart h i. others_stay old new p out m apart (k.open_wait m h i);
  from_old = λ m h. k.were_there m (were_in old new p out m h);
}

pub none_here : (open_at : ℕ → Bool) (first old : Places) → AreKept open_at first old → ((m : ℕ) → has old m ≡ false) → Misses open_at first
none_here open_at first old k none m h = go (open_at m) refl
  where
    go : (b : Bool) → open_at m ≡ b → open_at m ≡ false
    go true e = let z : false ≡ true = sym (none m) ∙ k.open_wait m h e in absurd cc
    go false e = e

pub none_left : (s : Places) → length s.keys ≡ 0 → (m : ℕ) → has s m ≡ false
none_left s h m = ap (list_any (λ k. is_eq (nat_cmp m k))) (nil_from_length s.keys h)
