-- Tokens as data see them are those that scheme_tokens tells.
use Rattle.std.proofs.Common.{◌≡◌, ℕ, suc, ◌≤◌, length, List, [], ◌∷◌, map, Option, Some, None, refl, sym, ap, ◌∙◌, subst, arith}
use Rattle.std.specs.Option.{option_map}
use Rattle.scheme_tokens.specs.Lexical.{byte_count}
use Rattle.scheme_tokens.specs.Lexical as texts
use Rattle.scheme_tokens.specs.Faults as faulty
use Rattle.scheme_tokens.specs.Stopping as stopping
use Rattle.scheme_tokens.specs.Views as views
use Rattle.scheme_tokens.specs.declared.token.Token as code_token
use Rattle.scheme_tokens.specs.declared.fault.ReadFault.{ReadFault}
use Rattle.scheme_tokens.proofs.Readings as readings
use Rattle.scheme_tokens.proofs.TokenCounts.{few_tokens}
use Rattle.scheme_model.specs.Kinds.{Token}
use Rattle.scheme_model.specs.Faults.{Stop}
use Rattle.datum_reader.specs.Texts.{token_seen, stop_seen, TextReads}
use Rattle.datum_reader.specs.Views.{token_of, tokens_of, told_end}

tokens_same : (ts : List code_token.Token) → map token_seen (views.tokens_of ts) ≡ tokens_of ts
tokens_same [] = refl
tokens_same (t ∷ ts) = ap (λ (us : List Token). token_of t ∷ us) (tokens_same ts)

end_same : (fin : Option faulty.FaultAt) → views.told_end fin ≡ told_end (option_map stop_seen fin)
end_same None = refl
end_same (Some f) = refl

-- a text has one list of tokens, and one end
pub text_once : (text : List ℕ) (ts us : List Token) (end fin : Option Stop) → TextReads text ts end → TextReads text us fin → (ts ≡ us) × (end ≡ fin)
text_once text ts us end fin h k =
    let o = readings.one_reading h.0 k.0 h.1 k.1 text h.2 k.2 in
    (h.3 ∙ ap (map token_seen) o.0 ∙ sym k.3, h.4 ∙ ap (option_map stop_seen) o.1 ∙ sym k.4)

-- the tokens of the code are those of its text
pub front_reads : (text : List ℕ) (tks : List code_token.Token) (fault : Option ReadFault) → views.IsFront tks fault text → (end : Option Stop) × TextReads text (tokens_of tks) end × (fault ≡ told_end end)
front_reads text tks fault front = (option_map stop_seen front.0, (views.tokens_of tks, front.0, front.1, sym (tokens_same tks), refl), front.2 ∙ end_same front.0)

none_end : (fin : Option faulty.FaultAt) → None ≡ option_map stop_seen fin → fin ≡ None
none_end None h = refl
none_end (Some f) h = cc

length_seen : (us : List texts.Token) → length (map token_seen us) ≡ length us
length_seen [] = refl
length_seen (u ∷ us) = ap suc (length_seen us)

-- a text has no more tokens than bytes
pub few_seen : (text : List ℕ) (ts : List Token) → TextReads text ts None → length ts ≤ byte_count text
few_seen text ts h =
    let spelled = subst (λ (e : Option faulty.FaultAt). stopping.IsRead h.0 e text) (none_end h.1 h.4) h.2 in
    omega (arith, few_tokens h.0 text spelled, ap length h.3, length_seen h.0)
