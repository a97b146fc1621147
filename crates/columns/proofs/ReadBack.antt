-- A buffer that is cut to an image, and what reading finds in an image alone.
use Rattle.std.proofs.Common.{◌≡◌, ℕ, ◌+◌, true, ◌&&◌, leb, List, [], ◌++◌, length, take, Ok, Err, Result, IsErrAnd, MatchResult, sym, ap, ◌∙◌, append-nil, arith}
use Rattle.std.proofs.lemmas.List.{take_at}
use Rattle.std.proofs.lemmas.Bool.{le-leb, and_parts}
use Rattle.column.specs.Widths.{listed, below}
use Rattle.column.specs.declared.fault.Fault.{Fault}
use Rattle.column.specs.Parsed.{got, told, values_of}
use Rattle.column.specs.Meaning.{Meaning, Lawful}
use Rattle.column.specs.Interface.{overlaid, writing, reading}
use Rattle.column.proofs.Choice.{chose-both, passed_on}
use Rattle.column.proofs.Widths.{below-decides}
use Rattle.columns.specs.declared.packing.PackError.{PackError}
use Rattle.columns.specs.declared.packing.PackError.TheVariants.{Memory, Refused}
use Rattle.columns.specs.Packing.{Fails}

module _ (kind : Meaning) (w : ℕ) where
  -- a vector of len bytes into whose front the image of a copy of these values was written, and that is then cut after it
  pub packed : (vs items copy old new rest cut : List ℕ) (len used : ℕ) → copy ≡ items → items ≡ vs → length new ≡ length old → length old ≡ len
      → Ok used ≡ writing kind 0 w copy (length old) 0 → new ≡ overlaid 0 (kind.image w copy) old → cut ≡ take used (take len (new ++ rest)) → cut ≡ kind.image w vs
  packed vs items copy old new rest cut len used taken same kept long answer bytes cuts =
      let image : List ℕ = kind.image w copy in
      let ok = chose-both (listed w && below w copy) (leb (0 + length image) (length old)) (length image) used _ _ answer in
      let whole : take used (take len (new ++ rest)) ≡ take used new = ap (take used) (take_at new rest len (kept ∙ long)) in
      let front : take used new ≡ image = ap (take used) bytes ∙ take_at image _ used (sym ok.2) in
      cuts ∙ whole ∙ front ∙ ap (kind.image w) (taken ∙ same)

  -- the image of values that fit is read whole
  pub read-whole : Lawful kind → (vs bytes : List ℕ) → (listed w && below w vs) ≡ true → bytes ≡ kind.image w vs → reading kind w (length vs) bytes 0 ≡ got vs (length (kind.image w vs))
  read-whole law vs bytes fits e =
      let parts = and_parts (listed w) (below w vs) fits in
      let within : leb 0 (length bytes) ≡ true = le-leb 0 (length bytes) (omega arith) in
      let alone : kind.parse w (length vs) bytes ≡ got vs (length (kind.image w vs)) =
      ap (kind.parse w (length vs)) (e ∙ sym (append-nil (kind.image w vs))) ∙ law.reads w vs [] parts.0 ((below-decides w vs).0 parts.1) in
      rw within alone

  -- .. as those values
  pub read-image : Lawful kind → (vs bytes : List ℕ) → (listed w && below w vs) ≡ true → bytes ≡ kind.image w vs → values_of (reading kind w (length vs) bytes 0) ≡ vs
  read-image law vs bytes fits e = ap values_of (read-whole law vs bytes fits e)

  -- .. and never refused: what keeps them from being read is memory alone
  pub only-memory : {X : Type 0} (P : X → Type 0) (wrote : Result ℕ Fault) (r : Result X PackError) (e : PackError) (count : ℕ) (vs bytes : List ℕ) → Lawful kind → (listed w && below w vs) ≡ true → bytes ≡ kind.image w vs → count ≡ length vs
      → Fails (told 0 (reading kind w count bytes 0)) e → IsErrAnd r (λ y. y ≡ e) → MatchResult r P (Fails wrote)
  only-memory P wrote r Memory count vs bytes law fits image whole fails same = rw (passed_on r Memory same) tt
  only-memory P wrote r (Refused f) count vs bytes law fits image whole fails same =
      let read : told 0 (reading kind w count bytes 0) ≡ Ok (length (kind.image w vs)) = ap (λ n. told 0 (reading kind w n bytes 0)) whole ∙ ap (told 0) (read-whole law vs bytes fits image) in
      let both : ◌≡◌ {A = Result ℕ Fault} (Ok (length (kind.image w vs))) (Err f) = sym read ∙ fails in
      let z : ◌≡◌ {A = ℕ} 0 1 = cc in
      absurd (omega arith)
