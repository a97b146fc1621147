-- Bytes that are put one after another.
use Rattle.std.proofs.Common.{◌≡◌, ℕ, ◌+◌, ◌<◌, ◌≤◌, true, false, cond, ◌&&◌, ltb, leb, List, [], ◌∷◌, ◌++◌, map as each, length, take, Option, Some, None, IsErrAnd, MatchResult, Ok, Err, Result, sym, refl, ap, ◌∙◌, subst, arith, suc}
use Rattle.std.specs.List.{filter_map, cons_option}
use Rattle.std.proofs.lemmas.List.{length-append, take-take}
use Rattle.std.proofs.lemmas.Result.{err_from_is_err_and}
use Rattle.std.proofs.lemmas.Bool.{cond-true, cond-false, leb-true, leb-false, le-leb, lt-leb, and_from, cond_both}
use Rattle.column.specs.declared.fault.Fault.{Fault}
use Rattle.column.specs.declared.fault.Cause.TheVariants.{Room}
use Rattle.column.specs.Parsed.{fault}
use Rattle.column.specs.Meaning.{Meaning}
use Rattle.column.specs.Widths.{listed, below, Below}
use Rattle.column.specs.Interface.{overlaid, writing, Written}
use Rattle.column.proofs.Choice.{chose, declined, passed_on}
use Rattle.column.proofs.Widths.{below-decides}
use Rattle.column.proofs.Overlaid.{overlaid-nil, length-overlaid, take-overlaid, overlaid-append}
use Rattle.document.specs.declared.refusals.Refusal.{Refusal}
use Rattle.document.specs.declared.refusals.Refusal.TheVariants as refusals
use Rattle.document.specs.Refusals.{of_fault}
use Rattle.document.specs.Columns.{longs}
use Rattle.ser.specs.Out.{ending, Put}

-- the same bytes and the same answer, told otherwise
pub put_as : {place : ℕ} {xs ys old new : List ℕ} {r s : Result ℕ Refusal} → xs ≡ ys → r ≡ s → Put place xs old new r → Put place ys old new s
put_as {place = place} {xs = xs} {ys = ys} {old = old} {new = new} {r = r} {s = s} e f p =
    let P : List ℕ → Type 0 = λ zs. Put place zs old new r in
    let Q : Result ℕ Refusal → Type 0 = λ t. Put place ys old new t in
    subst Q f (subst P e p)

-- bytes that end within the output
pub ending-in : (n size : ℕ) → n ≤ size → Ok n ≡ ending n size
ending-in n size h = sym (cond-true (leb n size) (Ok n) (Err refusals.Room) (le-leb n size h))

-- .. and past it
pub ending-past : (n size : ℕ) → size < n → Err refusals.Room ≡ ending n size
ending-past n size h = sym (cond-false (leb n size) (Ok n) (Err refusals.Room) (lt-leb n size h))

-- no bytes
pub put-none : (place : ℕ) (old : List ℕ) → place ≤ length old → Put place [] old old (Ok place)
put-none place old h =
    let e : place + 0 ≡ place = omega arith in
    record { answer = ending-in place (length old) h ∙ ap (λ n. ending n (length old)) (sym e); bytes = sym (overlaid-nil place old) }

-- where bytes were put, the place after them is within the output, whose length stays
pub put-within : (place : ℕ) (xs old new : List ℕ) (end : ℕ) → Put place xs old new (Ok end)
    → (end ≡ place + length xs) × (end ≤ length old) × (length new ≡ length old)
put-within place xs old new end p =
    let c = chose (leb (place + length xs) (length old)) _ _ _ p.answer in
    let l = leb-true (place + length xs) (length old) c.0 in
    (c.1, omega (arith, c.1), ap length p.bytes ∙ length-overlaid place xs old l)

-- bytes after others
pub put_then : (place : ℕ) (xs ys old mid new : List ℕ) (end : ℕ) (r : Result ℕ Refusal) → Put place xs old mid (Ok end) → Put end ys mid new r → Put place (xs ++ ys) old new r
put_then place xs ys old mid new end r p q =
    let w = put-within place xs old mid end p in
    let l : place + length xs ≤ length old = omega arith in
    let sum : end + length ys ≡ place + length (xs ++ ys) = omega (arith, length-append xs ys) in
    record { answer = q.answer ∙ ap (ending (end + length ys)) w.2 ∙ ap (λ n. ending n (length old)) sum; bytes = go w l r q.bytes }
  where
    go : (end ≡ place + length xs) × (end ≤ length old) × (length mid ≡ length old) → place + length xs ≤ length old → (s : Result ℕ Refusal) → Written s end ys mid new → Written s place (xs ++ ys) old new
    go w l (Ok n) b = b ∙ ap (λ k. overlaid k ys mid) w.0 ∙ ap (overlaid (place + length xs) ys) p.bytes ∙ sym (overlaid-append place xs ys old l)
    go w l (Err e) b =
        sym (take-take place end new (omega arith)) ∙ ap (take place) b ∙ take-take place end mid (omega arith)
        ∙ ap (take place) p.bytes ∙ take-overlaid place place xs old (omega arith) (omega arith)

-- where bytes find no room, more bytes do not either
pub put-stop : (place : ℕ) (xs ys old new : List ℕ) (e : Refusal) → Put place xs old new (Err e) → Put place (xs ++ ys) old new (Err e)
put-stop place xs ys old new e p =
    let d = declined (leb (place + length xs) (length old)) _ _ _ p.answer in
    let l = leb-false (place + length xs) (length old) d.0 in
    record { answer = ap Err d.1 ∙ ending-past (place + length (xs ++ ys)) (length old) (omega (arith, length-append xs ys)); bytes = p.bytes }

-- .. and a `?` passes the refusal on
pub put-refused : (place : ℕ) (xs ys old new : List ℕ) (e : Refusal) (r : Result ℕ Refusal) → Put place xs old new (Err e) → IsErrAnd r (λ f. f ≡ e) → Put place (xs ++ ys) old new r
put-refused place xs ys old new e r p h = put_as refl (sym (passed_on r e h)) (put-stop place xs ys old new e p)

-- the answer of a column's write, with the place after it, or as a refusal
abbrev pub after : ℕ → Result ℕ Fault → Result ℕ Refusal
after place (Ok n) = Ok (place + n)
after place (Err f) = Err (of_fault f 0)

-- a column of values that fit is put, or has no room
pub put-column : (col : Meaning) (w : ℕ) (vs ns old new : List ℕ) (place : ℕ) (r : Result ℕ Fault) (s : Result ℕ Refusal) → vs ≡ ns → listed w ≡ true → Below w vs
    → r ≡ writing col 0 w vs (length old) place → Written r place (col.image w vs) old new → after place r ≡ s → Put place (col.image w ns) old new s
put-column col w vs ns old new place r s q a b e h t =
    put_as (ap (col.image w) q) t (go r (e ∙ cond-true (listed w && below w vs) _ _ (and_from (listed w) (below w vs) a ((below-decides w vs).1 b))) h)
  where
    go : (r : Result ℕ Fault) → r ≡ cond (leb (place + length (col.image w vs)) (length old)) (Ok (length (col.image w vs))) (Err (fault Room (0 + col.floor)))
        → Written r place (col.image w vs) old new → Put place (col.image w vs) old new (after place r)
    go (Ok k) e h =
        let c = chose (leb (place + length (col.image w vs)) (length old)) _ _ _ e in
        record { answer = ap (λ m. Ok (place + m)) c.1 ∙ ending-in _ _ (leb-true _ _ c.0); bytes = h }
    go (Err f) e h =
        let d = declined (leb (place + length (col.image w vs)) (length old)) _ _ _ e in
        record { answer = ap (λ g. Err (of_fault g 0)) d.1 ∙ ending-past _ _ (leb-false _ _ d.0); bytes = h }

-- a fault becomes a refusal, which a `?` passes on
pub after-refused : (P : Fault → Refusal → Type 0) (place : ℕ) (r : Result ℕ Fault) (s t : Result ℕ Refusal) (e : Refusal) → MatchResult r (λ n. s ≡ Ok n) (λ f. IsErrAnd s (P f))
    → ((f : Fault) (x : Refusal) → P f x → x ≡ of_fault f 0) → s ≡ Err e → IsErrAnd t (λ x. x ≡ e) → after place r ≡ t
after-refused P place (Ok n) s t e m h b p = cc
after-refused P place (Err f) s t e m h b p = let a = err_from_is_err_and s m in sym (ap Err (h f a.0 a.2)) ∙ sym a.1 ∙ b ∙ sym (passed_on t e p)

-- and a size stays as it is
pub after-accepted : (P : Fault → Refusal → Type 0) (place : ℕ) (r : Result ℕ Fault) (s : Result ℕ Refusal) (n : ℕ) → MatchResult r (λ m. s ≡ Ok m) (λ f. IsErrAnd s (P f)) → s ≡ Ok n
    → after place r ≡ Ok (place + n)
after-accepted P place (Ok m) s n h b = let e : m ≡ n = cc in ap (λ k. Ok (place + k)) e
after-accepted P place (Err f) s n h b = let a = (err_from_is_err_and s h).1 in cc

-- ---- the numbers of a column

-- the long lengths fit as all do ..
pub longs-below : (w : ℕ) (ns : List ℕ) → Below w ns → Below w (longs ns)
longs-below w [] h = tt
longs-below w (n ∷ ns) (a, h) = cond_both (ltb n 255) (longs ns) (n ∷ longs ns) (Below w) (λ e. longs-below w ns h) (λ e. (a, longs-below w ns h))

-- .. and are no more
pub longs-few : (ns : List ℕ) → length (longs ns) ≤ length ns
longs-few [] = omega arith
longs-few (n ∷ ns) =
    let ih = longs-few ns in
    cond_both (ltb n 255) (longs ns) (n ∷ longs ns) (λ ks. length ks ≤ suc (length ns)) (λ e. omega arith) (λ e. omega arith)

-- where each value has a number in it, all of them stand there
pub kept-each : (f : ℕ → ℕ) (ns : List ℕ) → filter_map (λ n. Some (f n)) ns ≡ each f ns
kept-each f [] = refl
kept-each f (n ∷ ns) = ap (λ ks. f n ∷ ks) (kept-each f ns)

-- and so the values themselves
pub kept-all : (ns : List ℕ) → filter_map (λ n. Some n) ns ≡ ns
kept-all [] = refl
kept-all (n ∷ ns) = ap (λ ks. n ∷ ks) (kept-all ns)

-- the number of a length in the second length column
abbrev pub long : ℕ → Option ℕ
long n = cond (ltb n 255) None (Some n)

-- the long lengths stand there
pub kept-long : (ns : List ℕ) → filter_map long ns ≡ longs ns
kept-long [] = refl
kept-long (n ∷ ns) =
    elim (ltb n 255) as (λ b. cons_option (cond b None (Some n)) (filter_map long ns) ≡ cond b (longs ns) (n ∷ longs ns)) [
      | true ↦ kept-long ns
      | false ↦ ap (λ ks. n ∷ ks) (kept-long ns)
    ]
