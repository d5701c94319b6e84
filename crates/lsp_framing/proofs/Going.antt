-- Pieces go in one after another.
use Rattle.std.proofs.Common.{◌≡◌, ℕ, List, [], ◌∷◌, ◌++◌, refl, sym, ap, ◌∙◌, append_assoc, append-nil}
use Rattle.std.specs.List.{AllByRecursion}
use Rattle.std.proofs.lemmas.List.{map-append}
use Rattle.ls_base.specs.Frames.{Frame, IsFrame, stream, bodies_of}
use Rattle.lsp_framing.specs.Standing.{Stands, kept_bytes}
use Rattle.lsp_framing.specs.Taken.{Goes}
use Rattle.lsp_framing.specs.declared.partial.Partial.{Partial}
use Rattle.lsp_framing.proofs.Streams.{stream_append}

pub each_append : (P : Frame → Type 0) (fs gs : List Frame) → AllByRecursion P fs → AllByRecursion P gs → AllByRecursion P (fs ++ gs)
each_append P [] gs a b = b
each_append P (f ∷ fs) gs a b = (a.0, each_append P fs gs a.1 b)

pub stream_both : (fs gs : List Frame) (x : List ℕ) → stream (fs ++ gs) x ≡ stream fs (stream gs x)
stream_both [] gs x = refl
stream_both (f ∷ fs) gs x = ap (λ (q : List ℕ). f.header ++ (f.body ++ q)) (stream_both fs gs x)

pub bodies_both : (fs gs : List Frame) → bodies_of (fs ++ gs) ≡ bodies_of fs ++ bodies_of gs
bodies_both fs gs = map-append (λ f. f.body) fs gs

-- a whole body is given
pub given : (old new : Partial) (body : List ℕ) → IsFrame (record { header = old.header.items; body = body }) → body ≡ old.body.items → Stands new → kept_bytes new ≡ [] → Goes old [] (record { header = old.header.items; body = body } ∷ []) new
given old new body f e s none = record {
  each = (f, tt);
  text = append-nil (kept_bytes old) ∙ ap (λ (q : List ℕ). old.header.items ++ q) (sym e ∙ sym (append-nil body) ∙ ap (λ (q : List ℕ). body ++ q) (sym none));
  stands = s;
}

-- after some bytes, and a few more that may complete a frame
pub goes_on : (old mid full new : Partial) (more few : List ℕ) (gs hs : List Frame) → Goes old more gs mid → kept_bytes full ≡ kept_bytes mid ++ few → Goes full [] hs new → Goes old (more ++ few) (gs ++ hs) new
goes_on old mid full new more few gs hs x e y = record {
  each = each_append IsFrame gs hs x.each y.each;
  text = sym (append_assoc (kept_bytes old) more few) ∙ ap (λ (q : List ℕ). q ++ few) x.text ∙ stream_append gs (kept_bytes mid) few
      ∙ ap (stream gs) (sym e ∙ sym (append-nil (kept_bytes full)) ∙ y.text) ∙ sym (stream_both gs hs (kept_bytes new));
  stands = y.stands;
}

pub added : (old mid new : List (List ℕ)) (gs hs : List Frame) → mid ≡ old ++ bodies_of gs → new ≡ mid ++ bodies_of hs → new ≡ old ++ bodies_of (gs ++ hs)
added old mid new gs hs e k = k ∙ ap (λ (q : List (List ℕ)). q ++ bodies_of hs) e ∙ append_assoc old (bodies_of gs) (bodies_of hs) ∙ ap (λ (q : List (List ℕ)). old ++ q) (sym (bodies_both gs hs))
