use Rattle.std.proofs.Common.{◌≡◌, List, Option, Ok, None, map, ap, ◌∙◌}
use Rattle.scheme_tokens.specs.declared.token.Token as code_token
use Rattle.std.specs.Str.{chars}
use Rattle.std.proofs.lemmas.Result.{err_from_is_err_and}
use Rattle.scheme_model.specs.Kinds.{Token}
use Rattle.scheme_model.specs.Faults.{Stop}
use Rattle.datum_reader.specs.Texts.{TextReads}
use Rattle.datum_reader.specs.Views.{tokens_of, data_of, bytes_seen, bytes_of}
use Rattle.datum_reader.specs.OpenViews.{state_of, Fails}
use Rattle.datum_reader.specs.Open.{read}
use Rattle.datum_reader.proofs.ReadLaws.{one_front, spans_told, fails_within, fails_end, reads_end, fails_token}
use Rattle.datum_reader.proofs.Stops as stops
use Rattle.datum_reader.proofs.reader.read_text.Goals as goal

pub returns-in_err-state : goal.returns-in_err-state
returns-in_err-state c =
    let p = err_from_is_err_and c.from_residual-in_err-state.result c.from_residual-in_err-state.ensures.1 in
    let text = chars c.args.text.now in
    let front = c.in_ok-front.front in
    let e = c.in_err-state.field-0.0 in
    let exact : (ts : List Token) (end : Option Stop) → TextReads text ts end → Fails e (read ts end) = λ ts end h.
    let o = one_front text front.tokens c.into_vec.result.items front.fault ts end c.in_ok-front.ensures.front c.into_vec.ensures h in
    fails_within e (tokens_of c.into_vec.result.items) ts end o.0 c.in_err-state.ensures in
    rw (p.1, p.2) (record { exact = exact; spans = λ ts h. tt; found = tt; fault = stops.told text front.tokens front.fault e c.in_ok-front.ensures.front exact })

pub returns-in_err-items-in-None : goal.returns-in_err-items-in-None
returns-in_err-items-in-None c =
    let p = err_from_is_err_and c.from_residual-in_err-items-in-None.result c.from_residual-in_err-items-in-None.ensures.1 in
    let text = chars c.args.text.now in
    let front = c.in_ok-front.front in
    let e = c.in_err-items-in-None.field-0.0 in
    let exact : (ts : List Token) (end : Option Stop) → TextReads text ts end → Fails e (read ts end) = λ ts end h.
    let o = one_front text front.tokens c.into_vec.result.items front.fault ts end c.in_ok-front.ensures.front c.into_vec.ensures h in
    fails_end e (state_of c.in_ok-state.state) (tokens_of c.into_vec.result.items) ts front.fault end o.0 c.in_ok-state.ensures o.1 c.in-None.is c.in_err-items-in-None.ensures in
    rw (p.1, p.2) (record { exact = exact; spans = λ ts h. tt; found = tt; fault = stops.told text front.tokens front.fault e c.in_ok-front.ensures.front exact })

pub returns-in-Some : goal.returns-in-Some
returns-in-Some c =
    let text = chars c.args.text.now in
    let front = c.in_ok-front.front in
    let e = c.in-Some.fault in
    let exact : (ts : List Token) (end : Option Stop) → TextReads text ts end → Fails e (read ts end) = λ ts end h.
    let o = one_front text front.tokens c.into_vec.result.items front.fault ts end c.in_ok-front.ensures.front c.into_vec.ensures h in
    fails_token e (state_of c.in_ok-state.state) (tokens_of c.into_vec.result.items) ts front.fault end o.0 c.in_ok-state.ensures o.1 c.in-Some.is in
    record { exact = exact; spans = λ ts h. tt; found = tt; fault = stops.told text front.tokens front.fault e c.in_ok-front.ensures.front exact }

pub returns-in_ok-items-in-None : goal.returns-in_ok-items-in-None
returns-in_ok-items-in-None c =
    let text = chars c.args.text.now in
    let front = c.in_ok-front.front in
    let ds = data_of c.in_ok-items-in-None.items in
    let exact : (ts : List Token) (end : Option Stop) → TextReads text ts end → read ts end ≡ Ok ds = λ ts end h.
    let o = one_front text front.tokens c.into_vec.result.items front.fault ts end c.in_ok-front.ensures.front c.into_vec.ensures h in
    reads_end ds (state_of c.in_ok-state.state) (tokens_of c.into_vec.result.items) ts front.fault end o.0 c.in_ok-state.ensures o.1 c.in-None.is c.in_ok-items-in-None.ensures in
    let spans : (ts : List Token) → TextReads text ts None → map bytes_seen c.in_ok-spans.spans.items ≡ map bytes_of ts = λ ts h.
    let o = one_front text front.tokens c.into_vec.result.items front.fault ts None c.in_ok-front.ensures.front c.into_vec.ensures h in
    spans_told c.into_vec.result.items front.tokens ts c.in_ok-spans.spans.items o.0 c.into_vec.ensures (c.in_ok-spans.ensures ∙ ap (map (λ (t : code_token.Token). t.span)) c.as_slice.ensures) in
    record { exact = exact; spans = spans; found = stops.found text front.tokens front.fault ds c.in_ok-front.ensures.front exact; fault = tt }
