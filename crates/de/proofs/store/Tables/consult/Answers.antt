use Rattle.std.proofs.Common.{rules, ◌≡◌, ◌<◌, ◌^◌, true, false, ◌&&◌, length, Ok, Err, Option, Result, sym, ap, ◌∙◌, subst, arith}
use Rattle.document.specs.declared.refusals.Refusal.{Refusal}
use Rattle.document.specs.declared.questions.Answer.{Answer}
use Rattle.de.specs.Moves.{sheets, node, branch_in, lacks_child}
use Rattle.document.specs.Reader.{asks}
use Rattle.de.specs.Asked.{marking, branching, opens_place}
use Rattle.de.specs.Served.{Consulted}
use Rattle.de.specs.declared.columns.Gain.{Gain}
use Rattle.de.specs.Viewed.{View, viewed, views, Looks}
use Rattle.de.specs.Hearing.{HeardIn, Heard as HeardAs}
use Rattle.de.specs.Taken.{taken_in, branched, branch_then, opened_at}
use Rattle.de.proofs.Asking.{marking_is}
use Rattle.de.proofs.Consulted.{bytes_of, has_root, look_safe, Looked, Listened, hear_safely, consulted_view, consulted_answer, consulted_depth, consulted_nodes, consulted_ok, take_safe, branch_safe}
use Rattle.de.proofs.Viewing.{branch_viewed}
use Rattle.de.proofs.Sizes.{lengths_taken, lengths_branched}
use Rattle.de.proofs.store.Tables.consult.Given.{Over}
use Rattle.de.proofs.store.Tables.consult.Goals.{After-look, After-hear}
use Rattle.de.proofs.store.Tables.consult.Goals as goal

-- the node as it was found
abbrev seen : (g : Over) (c : After-look g) → Option Gain → View
seen g c gain = viewed (sheets c.look.new.self) c.args.r c.mark_of-mark.result gain

-- it was looked at, which told this
looked : (g : Over) (c : After-look g) (told : Result View Refusal) → views (sheets c.look.new.self) c.args.r c.mark_of-mark.result c.look.result ≡ told
    → Looked (g.C.Column.meaning c.args.source.now.kind.now) c.args.source.now.input.now (sheets c.args.self.now) (sheets c.look.new.self) c.args.r c.args.question told
looked g c told is =
    record {
      law = g.met.C.Column.lawful c.args.source.now.kind.now;
      bytes = bytes_of c.args.source.now.input.now c.args.source.now.bytes;
      some = has_root c.args.self.now c.requires.rooted;
      spares = c.look.ensures.spared;
      looks = λ a q. subst (Looks (g.C.Column.meaning c.args.source.now.kind.now) c.args.source.now.input.now (sheets c.args.self.now) c.look.new.self.slots.items c.args.r (asks a)) is (c.look.ensures.answer (asks a) (c.mark_of-mark.ensures ∙ ap marking q ∙ marking_is a));
    }

-- .. and this was read, or it was read before
found : (g : Over) (c : After-look g) (gain : Option Gain) → c.look.result ≡ Ok gain
    → Looked (g.C.Column.meaning c.args.source.now.kind.now) c.args.source.now.input.now (sheets c.args.self.now) (sheets c.look.new.self) c.args.r c.args.question (Ok (seen g c gain))
found g c gain is = looked g c (Ok (seen g c gain)) (ap (views (sheets c.look.new.self) c.args.r c.mark_of-mark.result) is)

-- its next value was heard, which told this
listened : (g : Over) (c : After-hear g) (told : Result Answer Refusal) → c.hear.result ≡ told
    → Looked (g.C.Column.meaning c.args.source.now.kind.now) c.args.source.now.input.now (sheets c.args.self.now) (sheets c.look.new.self) c.args.r c.args.question
    (Ok (viewed (sheets c.look.new.self) c.args.r c.mark_of-mark.result c.in_ok-gain.gain))
    → Listened (g.C.Column.meaning c.args.source.now.kind.now) c.args.source.now.input.now (sheets c.args.self.now) (sheets c.look.new.self) c.args.r c.args.question (viewed (sheets c.look.new.self) c.args.r c.mark_of-mark.result c.in_ok-gain.gain) told
listened g c told is looks =
    let U = sheets c.look.new.self in
    let x = (viewed U c.args.r c.mark_of-mark.result c.in_ok-gain.gain).node in
    record {
      looked = looks;
      hears = λ a cs q h. subst (HeardAs a cs x.text) is (subst (λ s. HeardIn U s a cs → HeardAs a cs s.text c.hear.result) (c.sight-seen.ensures c.mark_of-mark.result) (c.hear.ensures a cs q) h);
    }

-- looking is safe
pub look-requires : goal.look-requires
look-requires g c = look_safe c.args.source.now.input.now (sheets c.args.self.now) c.args.r c.requires.readable (has_root c.args.self.now c.requires.rooted)

-- looking refuses
pub returns-in_err-gain : goal.returns-in_err-gain
returns-in_err-gain g c =
    let h = goal.at.returns-in_err-gain g c in
    let e = c.in_err-gain.field-0.0 in
    let told : c.from_residual.result ≡ Err e = search rules in
    rw told (consulted_view (looked g h.After-look (Err e) (ap (views (sheets c.look.new.self) c.args.r c.mark_of-mark.result) c.in_err-gain.was)) c.args.deep)

-- the record is in the table
pub sight-seen-requires : goal.sight-seen-requires
sight-seen-requires g c =
    let safe = look_safe c.args.source.now.input.now (sheets c.args.self.now) c.args.r c.requires.readable (has_root c.args.self.now c.requires.rooted) in
    omega (arith, safe.within, ap length c.look.ensures.spared.nodes, c.look.new.self.nodes.ok.0)

-- hearing is safe
pub hear-requires : goal.hear-requires
hear-requires g c =
    rw (c.sight-seen.ensures c.mark_of-mark.result) (hear_safely (found g (goal.at.hear-requires g c).After-look c.in_ok-gain.gain c.in_ok-gain.was) c.requires.readable c.requires.asks.0 c.requires.asks.1)

-- hearing refuses
pub returns-in_err-answer : goal.returns-in_err-answer
returns-in_err-answer g c =
    let h = goal.at.returns-in_err-answer g c in
    let e = c.in_err-answer.field-0.0 in
    let told : c.from_residual-in_err-answer.result ≡ Err e = search rules in
    rw told (consulted_answer (listened g h.After-hear (Err e) c.in_err-answer.was (found g h.After-look c.in_ok-gain.gain c.in_ok-gain.was)) c.args.deep)

-- a place too many
pub returns-then-opens_place : goal.returns-then-opens_place
returns-then-opens_place g c =
    let h = goal.at.returns-then-opens_place g c in
    let full : (c.args.deep && opens_place c.in_ok-answer.answer) ≡ true = search rules in
    consulted_depth (listened g h.After-hear (Ok c.in_ok-answer.answer) c.in_ok-answer.was (found g h.After-look c.in_ok-gain.gain c.in_ok-gain.was)) c.args.deep full

-- the record is in the table
pub branch-child-requires : goal.branch-child-requires
branch-child-requires g c =
    let safe = look_safe c.args.source.now.input.now (sheets c.args.self.now) c.args.r c.requires.readable (has_root c.args.self.now c.requires.rooted) in
    omega (arith, safe.within, ap length c.look.ensures.spared.nodes, c.look.new.self.nodes.ok.0)

-- no record for a new branch
pub returns-then-lacks_child : goal.returns-then-lacks_child
returns-then-lacks_child g c =
    let h = goal.at.returns-then-lacks_child g c in
    let U = sheets c.look.new.self in
    let shallow : (c.args.deep && opens_place c.in_ok-answer.answer) ≡ false = search rules in
    let index = c.index_of-index.ensures in
    let at_child = c.branch-child.ensures ∙ ap (branch_in U (node U c.args.r)) index ∙ branch_viewed U c.args.r c.mark_of-mark.result c.in_ok-gain.gain (branching c.in_ok-answer.answer) in
    consulted_nodes (listened g h.After-hear (Ok c.in_ok-answer.answer) c.in_ok-answer.was (found g h.After-look c.in_ok-gain.gain c.in_ok-gain.was)) c.args.deep shallow c.branch-child.result at_child
    (sym (c.lacks_child.ensures ∙ ap (lacks_child U c.branch-child.result) index) ∙ c.if-lacks_child.true)

-- taking the answer is safe
pub take_in-requires-clause-safe : goal.take_in-requires-clause-safe
take_in-requires-clause-safe g c =
    let h = goal.at.take_in-requires-clause-safe g c in
    let short : length c.args.source.now.input.now < 2 ^ 64 = omega arith in
    rw c.letters_of.ensures (take_safe (listened g h.After-hear (Ok c.in_ok-answer.answer) c.in_ok-answer.was (found g h.After-look c.in_ok-gain.gain c.in_ok-gain.was)) c.requires.readable c.requires.asks.0 c.requires.asks.1 short)

-- so is a record for a new branch
pub branch_out-child-requires : goal.branch_out-child-requires
branch_out-child-requires g c =
    let h = goal.at.branch_out-child-requires g c in
    let index = c.index_of-index.ensures in
    let lacks = sym (ap (lacks_child (sheets c.look.new.self) c.branch-child.result) index) ∙ sym c.lacks_child.ensures ∙ c.if-lacks_child.false in
    rw (c.take_in.ensures, c.letters_of.ensures, index)
    (branch_safe (listened g h.After-hear (Ok c.in_ok-answer.answer) c.in_ok-answer.was (found g h.After-look c.in_ok-gain.gain c.in_ok-gain.was)) c.requires.readable c.requires.asks.0 c.requires.asks.1 c.branch-child.result lacks)

-- the record is in the table that is as long as it was
pub opened-opened-requires : goal.opened-opened-requires
opened-opened-requires g c =
    let safe = look_safe c.args.source.now.input.now (sheets c.args.self.now) c.args.r c.requires.readable (has_root c.args.self.now c.requires.rooted) in
    let V = sheets c.take_in.new.self in
    let e = ap (λ T. length T.nodes) c.branch_out-child.ensures.tables ∙ (lengths_branched c.args.r c.branch-child.result c.index_of-index.result V).nodes
    ∙ ap (λ T. length T.nodes) c.take_in.ensures ∙ (lengths_taken c.args.r (viewed (sheets c.look.new.self) c.args.r c.mark_of-mark.result c.in_ok-gain.gain) c.letters_of.result (sheets c.look.new.self)).nodes ∙ ap length c.look.ensures.spared.nodes in
    omega (arith, safe.within, e, c.branch_out-child.new.self.nodes.ok.0)

-- the answer
pub returns : goal.returns
returns g c =
    let h = goal.at.returns g c in
    let shallow : (c.args.deep && opens_place c.in_ok-answer.answer) ≡ false = search rules in
    let index = c.index_of-index.ensures in
    let U = sheets c.look.new.self in
    let v = viewed U c.args.r c.mark_of-mark.result c.in_ok-gain.gain in
    let lacks = sym (ap (lacks_child U c.branch-child.result) index) ∙ sym c.lacks_child.ensures ∙ c.if-lacks_child.false in
    let at_child = c.branch-child.ensures ∙ ap (branch_in U (node U c.args.r)) index ∙ branch_viewed U c.args.r c.mark_of-mark.result c.in_ok-gain.gain (branching c.in_ok-answer.answer) in
    let V = c.take_in.ensures ∙ ap (λ n. taken_in c.args.r v n U) c.letters_of.ensures in
    let tables = c.branch_out-child.ensures.tables ∙ ap (λ o. branched c.args.r c.branch-child.result o (sheets c.take_in.new.self)) index ∙ ap (branched c.args.r c.branch-child.result (branching c.in_ok-answer.answer)) V in
    let place = c.branch_out-child.ensures.place ∙ ap (λ o. branch_then c.branch-child.result o (sheets c.take_in.new.self)) index ∙ ap (branch_then c.branch-child.result (branching c.in_ok-answer.answer)) V in
    let opened = c.opened-opened.ensures ∙ ap (λ k. opened_at (sheets c.branch_out-child.new.self) c.args.r k c.args.question c.in_ok-answer.answer) place in
    subst (λ o. Consulted (g.C.Column.meaning c.args.source.now.kind.now) c.args.source.now.input.now c.args.r c.args.question c.args.deep (sheets c.args.self.now) (sheets c.branch_out-child.new.self) (Ok (record { answer = c.in_ok-answer.answer; opened = o }))) (sym opened)
    (consulted_ok (listened g h.After-hear (Ok c.in_ok-answer.answer) c.in_ok-answer.was (found g h.After-look c.in_ok-gain.gain c.in_ok-gain.was)) c.args.deep shallow c.branch-child.result at_child lacks (sheets c.branch_out-child.new.self) tables)
