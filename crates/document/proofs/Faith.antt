-- Documents that are asked alike have the same bytes exactly when they are equal.
use Rattle.std.proofs.Common.{◌≡◌, ℕ, ◌+◌, false, List, [], ◌∷◌, ◌++◌, sym, refl, ap, ◌∙◌, append-nil, arith}
use Rattle.column.specs.Meaning.{Meaning, Lawful}
use Rattle.document.specs.declared.questions.Question.{Question}
use Rattle.document.specs.Calls.{Call, val, end}
use Rattle.document.specs.Bytes.{bytes}
use Rattle.document.specs.Said.{asked}
use Rattle.document.specs.Verdict.{Sizes}
use Rattle.document.specs.Reader.{Reply, reply, refuse, Reading, answer, begin}
use Rattle.document.specs.Replay.{replay, heard, stopped, Replay, going, also, hearing}
use Rattle.document.specs.Theorems.{Asks, Asked, AskedAlike, equal, later, apart}
use Rattle.document.proofs.Sound.{Sane}
use Rattle.document.proofs.Heard.{heard-within}

-- each call's question, without a flag
plains : List Call → List Question
plains [] = []
plains (c ∷ cs) = asked false c ∷ plains cs

plain-asks : (c : Call) → Asks (asked false c) c
plain-asks (val v) = (false, refl, λ t. absurd t)
plain-asks end = refl

plains-ask : (cs : List Call) → Asked (plains cs) cs
unfolding plains
plains-ask [] = tt
plains-ask (c ∷ cs) = (plain-asks c, plains-ask cs)

-- what a reading heard first, and what it heard then
also-heard : (c d : Call) (o : Replay) (cs : List Call) (bs : List ℕ) → also c o ≡ heard (d ∷ cs) bs → (c ≡ d) × (o ≡ heard cs bs)
also-heard c d (heard ds rs) cs bs e = (cc, cc)
also-heard c d (stopped n) cs bs e = (cc, cc)

-- two readings from one state that begin with one question
same_first : (input : List ℕ) (c d : Call) (m k : Reading → Replay) (r : Reply) (cs ds : List Call) (rs bs : List ℕ) → going input r m ≡ heard (c ∷ cs) rs → going input r k ≡ heard (d ∷ ds) bs → c ≡ d
same_first input c d m k (reply x at s) cs ds rs bs e f = sym (also-heard (hearing input x at) c (m s) cs rs e).0 ∙ (also-heard (hearing input x at) d (k s) ds bs f).0
same_first input c d m k (refuse n) cs ds rs bs e f = cc

same-later : (input : List ℕ) (c : Call) (m k : Reading → Replay) (r : Reply) (cs ds : List Call) (rs bs : List ℕ) → going input r m ≡ heard (c ∷ cs) rs → going input r k ≡ heard (c ∷ ds) bs
    → ((s : Reading) → m s ≡ heard cs rs → k s ≡ heard ds bs → cs ≡ ds) → cs ≡ ds
same-later input c m k (reply x at s) cs ds rs bs e f more = more s (also-heard (hearing input x at) c (m s) cs rs e).1 (also-heard (hearing input x at) c (k s) ds bs f).1
same-later input c m k (refuse n) cs ds rs bs e f more = cc

-- one reader over one input hears one list
told-apart : (col : Meaning) (input : List ℕ) (cs ds : List Call) (rs bs : List ℕ) → AskedAlike cs ds → (r : Reading) → replay col input r (plains cs) ≡ heard cs rs → replay col input r (plains ds) ≡ heard ds bs → cs ≡ ds
unfolding plains
told-apart col input cs ds rs bs equal r e f = refl
told-apart col input cs ds rs bs (later {c = c} {cs = xs} {ds = ys} a) r e f =
    ap (λ l. c ∷ l) (same-later input c (λ s. replay col input s (plains xs)) (λ s. replay col input s (plains ys)) (answer col r.store r.places (asked false c)) xs ys rs bs e f (told-apart col input xs ys rs bs a))
told-apart col input cs ds rs bs (apart {c = c} {d = d} {cs = xs} {ds = ys} q n) r e f =
    absurd (n (same_first input c d (λ s. replay col input s (plains xs)) (λ s. replay col input s (plains ys)) (answer col r.store r.places (asked false c)) xs ys rs bs e (rw q f)))

-- one document's bytes begin the other's: a reader with tables for both tells them apart
pub apart-within : (col : Meaning) → Lawful col → (one two : Sizes) (cs ds : List Call) → Sane one cs → Sane two ds → AskedAlike cs ds → (after : List ℕ) → bytes col cs ++ after ≡ bytes col ds → cs ≡ ds
apart-within col law one two cs ds a b alike after e =
    let nodes : ℕ = one.nodes + two.nodes in
    let slots : ℕ = one.cells + two.cells in
    let second = rw (append-nil (bytes col ds)) at (heard-within col law two ds b (plains ds) (plains-ask ds) nodes slots (omega arith) (omega arith) []) in
    told-apart col (bytes col cs ++ after) cs ds after [] alike (begin nodes slots (bytes col cs ++ after))
    (heard-within col law one cs a (plains cs) (plains-ask cs) nodes slots (omega arith) (omega arith) after)
    (rw e second)
