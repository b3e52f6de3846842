use Rattle.std.proofs.lemmas.Result.{err_from_is_err_and}
use Rattle.text_line.proofs.Opened.{no_form, no_letter, no_order, no_room, stored}
use Rattle.text_line.proofs.read_line.Goals as goal

pub returns-then-eq-clause-read : goal.returns-then-eq-clause-read
returns-then-eq-clause-read c = search no_letter

pub returns-in_err-place-clause-read : goal.returns-in_err-place-clause-read
returns-in_err-place-clause-read c =
    let r = err_from_is_err_and c.from_residual.result c.from_residual.ensures.1 in
    no_order _ _ _ _ c.line_letter-l.ensures c.eq.ensures c.if-eq.false c.next_place.ensures c.ok_or.ensures.value _ c.in_err-place.was (rw (r.1, r.2))

pub returns-in_err-row-clause-read : goal.returns-in_err-row-clause-read
returns-in_err-row-clause-read c =
    let r = err_from_is_err_and c.from_residual-in_err-row.result c.from_residual-in_err-row.ensures.1 in
    no_form _ _ _ _ c.line_letter-l.ensures c.eq.ensures c.if-eq.false c.next_place.ensures c.ok_or.ensures.value c.in_ok-place.was
    c.read_row.ensures c.ok_or-2.ensures.value _ c.in_err-row.was (rw (r.1, r.2))

pub returns-then-is_full-clause-read : goal.returns-then-is_full-clause-read
returns-then-is_full-clause-read c =
    no_room _ _ _ _ c.line_letter-l.ensures c.eq.ensures c.if-eq.false c.next_place.ensures c.ok_or.ensures.value c.in_ok-place.was
    c.read_row.ensures c.ok_or-2.ensures.value c.in_ok-row.was c.is_full.ensures c.if-is_full.true

pub returns-clause-read : goal.returns-clause-read
returns-clause-read c =
    stored _ _ _ _ c.line_letter-l.ensures c.eq.ensures c.if-eq.false c.next_place.ensures c.ok_or.ensures.value c.in_ok-place.was
    c.read_row.ensures c.ok_or-2.ensures.value c.in_ok-row.was c.is_full.ensures c.if-is_full.false _ _ c.put_row.ensures.put
