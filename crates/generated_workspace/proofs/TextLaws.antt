-- The texts of libraries by their numbers.
use Rattle.std.proofs.Common.{◌≡◌, ◌≤◌, ◌<◌, ◌+◌, ◌-◌, ◌++◌, ℕ, zero, suc, pos, List, length, length-append, codes, Bool, true, false, cond, nat_cmp, ap, arith}
use Rattle.std.specs.Cmp.Lexicographic.{slice_cmp, nat_list_cmp_total}
use Rattle.std.specs.FinMap.{contains_key, insert, len, len-empty, len-insert}
use Rattle.std.specs.Fmt.{decimal}
use Rattle.std.proofs.lemmas.Fmt.{length-decimal-le}
use Rattle.ls_base.specs.Limits.{max_text}
use Rattle.document_store.specs.Texts.{Document}
use Rattle.generated_workspace.specs.Generated.{function_before, import_before, libraries, library_call, library_exports, library_imports, library_macro, library_text, library_uri, main_text, main_uri, selfrun_texts}

-- ---- the texts are short

digits : (n : ℕ) → n < 60 → length (decimal n) ≤ 2
digits n few = length-decimal-le 2 n (omega arith) (omega arith) (omega arith)

import_short : (n : ℕ) → n < 60 → length (import_before n) ≤ 100
import_short zero few = omega arith
import_short (suc n) few = let d = digits n (omega arith) in simp length-append (omega arith)

function_short : (n : ℕ) → n < 60 → length (function_before n) ≤ 100
function_short zero few = omega arith
function_short (suc n) few = let d = digits n (omega arith) in simp length-append (omega arith)

exports_short : (n : ℕ) → n < 60 → length (library_exports n) ≤ 1000
exports_short n few = let d = digits n few in simp length-append (omega arith)

imports_short : (n : ℕ) → n < 60 → length (library_imports n) ≤ 1000
imports_short n few = let i = import_short n few in simp length-append (omega arith)

macro_short : (n : ℕ) → n < 60 → length (library_macro n) ≤ 1000
macro_short n few = let d = digits n few in simp length-append (omega arith)

call_short : (n : ℕ) → n < 60 → length (library_call n) ≤ 1000
call_short n few =
    let d = digits n few in
    let f = function_short n few in
    simp length-append (omega arith)

whole : (d a b c k : List ℕ) → length d ≤ 2 → length a ≤ 1000 → length b ≤ 1000 → length c ≤ 1000 → length k ≤ 1000 →
    length (codes "(define-library (gen l" ++ d ++ codes ") " ++ (a ++ codes " " ++ b ++ codes " " ++ (codes "(begin " ++ c ++ codes " " ++ (codes "(define (f" ++ d ++ codes " t) " ++ k ++ codes ")") ++ codes ")")) ++ codes ")") ≤ max_text
whole d a b c k p q r s t = simp length-append (omega arith)

pub library_short : (n : ℕ) → n < 60 → length (library_text n) ≤ max_text
unfolding library_text
library_short n few = whole (decimal n) (library_exports n) (library_imports n) (library_macro n) (library_call n) (digits n few) (exports_short n few) (imports_short n few) (macro_short n few) (call_short n few)

program_short : (d : List ℕ) → length d ≤ 2 → length ((codes "(import (scheme base) (gen l" ++ d ++ codes "))") ++ codes " " ++ (codes "(define t 1) (define r (twice" ++ d ++ codes " (f" ++ d ++ codes " t)))")) ≤ max_text
program_short d p = simp length-append (omega arith)

pub main_short : (n : ℕ) → n < 60 → length (main_text n) ≤ max_text
unfolding main_text
main_short n few = program_short (decimal n) (digits n few)

-- ---- and few

one_more : (b : Bool) (was now n : ℕ) → now ≡ cond b was (was + 1) → was ≤ n → now ≤ suc n
one_more true was now n is few = omega arith
one_more false was now n is few = omega arith

pub few_libraries : (n : ℕ) → len (libraries n) ≤ n
few_libraries zero = omega (arith, len-empty (slice_cmp nat_cmp) Document)
few_libraries (suc n) =
    one_more (contains_key (libraries n) (library_uri n)) (len (libraries n)) (len (libraries (suc n))) n
    (len-insert nat_list_cmp_total (libraries n) (library_uri n) (pos 0, library_text n)) (few_libraries n)

pub with_main : (n last : ℕ) → 1 ≤ n → last ≡ n - 1 → insert (libraries n) main_uri (pos 0, main_text last) ≡ selfrun_texts n
with_main zero last some is = absurd (omega arith)
with_main (suc n) last some is = let same : last ≡ n = omega arith in ap (λ (k : ℕ). insert (libraries (suc n)) main_uri (pos 0, main_text k)) same
