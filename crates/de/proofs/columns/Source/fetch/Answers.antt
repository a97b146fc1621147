use Rattle.std.proofs.Common.{◌≡◌, ℕ, sym, refl, ap, ◌∙◌, ⊎_elim}
use Rattle.document.specs.Calls.{SCALAR, SEQ, MAP, ENUM, number, letters}
use Rattle.document.specs.Fetch.{columns_of, fetch}
use Rattle.nodes.specs.declared.marks.Mark.{Mark}
use Rattle.nodes.specs.declared.marks.Mark.TheVariants as marks
use Rattle.de.proofs.Cells.{kind_of, of_mark, as_cells, numbers-stored, summed, texts-stored, of_scalar, blank_read}
use Rattle.de.proofs.columns.Source.fetch.Goals as goal

-- a node of scalars has a column of their width
pub returns-in-Scalar-clause-answer : goal.returns-in-Scalar-clause-answer
returns-in-Scalar-clause-answer g c =
    let k = c.in-Scalar.k in
    of_mark _ _ (marks.Scalar k) c.in-Scalar.is
    (as_cells number _ _ _ _ _ _ _ (of_scalar _ _ _ _ _ k c.width.ensures) (λ gain ns s. numbers-stored (SCALAR k) _ _ _ gain ns (λ t. cc) s.0 s.2) c.read_numbers.result c.read_numbers.ensures.answer)

-- a node of indices has a column of 8 bits
pub returns-in-Enum-clause-answer : goal.returns-in-Enum-clause-answer
unfolding fetch
returns-in-Enum-clause-answer g c =
    of_mark _ _ marks.Enum c.in-Enum.is
    (as_cells number _ _ _ _ _ _ _ refl (λ gain ns s. numbers-stored ENUM _ _ _ gain ns (λ t. cc) s.0 s.2) c.read_numbers-in-Enum.result c.read_numbers-in-Enum.ensures.answer)

-- a node of seqs, or of maps, has two columns
pub returns-in-Seq-clause-answer : goal.returns-in-Seq-clause-answer
unfolding fetch
returns-in-Seq-clause-answer g c =
    ⊎_elim
    (λ e. of_mark _ _ marks.Seq e (as_cells number _ _ _ _ _ _ _ refl (λ gain ns s. numbers-stored SEQ _ _ _ gain ns (λ t. cc) s.0 (s.1 ∙ sym (summed ns))) c.read_lengths.result c.read_lengths.ensures.answer))
    (λ e. of_mark _ _ marks.Map e (as_cells number _ _ _ _ _ _ _ refl (λ gain ns s. numbers-stored MAP _ _ _ gain ns (λ t. cc) s.0 (s.1 ∙ sym (summed ns))) c.read_lengths.result c.read_lengths.ensures.answer))
    c.in-Seq.is

-- a node of texts has those, and its texts behind them
pub returns-in-Text-clause-answer : goal.returns-in-Text-clause-answer
unfolding fetch
returns-in-Text-clause-answer g c = of_mark _ _ marks.Text c.in-Text.is (as_cells letters _ _ _ _ _ _ _ refl (texts-stored _ _ _) c.read_texts.result c.read_texts.ensures.answer)

-- the others have no column
pub returns-in-Unmarked-clause-answer : goal.returns-in-Unmarked-clause-answer
returns-in-Unmarked-clause-answer g c = λ K e.
    let columns : Mark → ℕ = λ m. columns_of (kind_of m) in
    let none : columns c.args.mark ≡ 0 = ⊎_elim (ap columns) (⊎_elim (ap columns) (λ t. ap columns t.1)) c.in-Unmarked.is in
    blank_read K (of_mark (λ J. columns_of J ≡ 0) c.args.mark c.args.mark refl none K e) _ _ _ _ _ _ _ c.requires.within
