-- `salvaging::salvage` meets its contract: once there is room, all is found out with the codes in a row of its own; then the list is written, and then the output. Assumes nothing.
use Rattle.std.proofs.Common.{◌≡◌, ◌≤◌, ◌∙◌, Ok, sym, length, arith, rules}
use Rattle.salvaging.specs.Salvage.{room_fault, salvage_fault, salvage_answer, mended, listed, salvaged}
use Rattle.salvaging.proofs.AnswerLaws.{Roomy, roomy}
use Rattle.salvaging.proofs.FoundLaws.{lent, lent_fits, codes_within, read_long, read_fits, codes_read, list_made, found_refused, found_fine, found_many, found_within, found_placed, mended_left, answer_left}
use Rattle.salvaging.proofs.salvage.Goals as goal
use Rattle.salvaging.proofs.salvage.Goals.{After-blocks_of-k}

fine : (c : goal.After-blocks_of-k) → let a = c.args in room_fault (length a.input.now) (length a.list.now) (length a.out.now) ≡ Ok tt
fine c = sym c.check_room.ensures ∙ c.in_ok-check_room.was

room : (c : goal.After-blocks_of-k) → let a = c.args in Roomy (length a.input.now) (length a.list.now) (length a.out.now)
room c = roomy _ _ _ (fine c)

most : (c : goal.After-blocks_of-k) → c.blocks_of-k.result ≤ 64
most c = omega (arith, c.blocks_of-k.ensures, (room c).most)

listing : (c : goal.After-blocks_of-k) → c.blocks_of-k.result ≤ length c.args.list.now
listing c = omega (arith, c.blocks_of-k.ensures, (room c).list)

pub slice_bounds-codes-end : goal.slice_bounds-codes-end
slice_bounds-codes-end c = most (goal.at.slice_bounds-codes-end c).After-blocks_of-k

pub slice_bounds-put_codes-end : goal.slice_bounds-put_codes-end
slice_bounds-put_codes-end c =
    let here = (goal.at.slice_bounds-put_codes-end c).After-blocks_of-k in
    lent c.args.input.now _ _ c.blocks_of-k.ensures (room here) (most here)

pub put_codes-requires : goal.put_codes-requires
put_codes-requires c =
    let here = (goal.at.put_codes-requires c).After-blocks_of-k in
    lent_fits c.args.input.now _ _ c.blocks_of-k.ensures (room here) (most here)

pub slice_bounds-codes-end-2 : goal.slice_bounds-codes-end-2
slice_bounds-codes-end-2 c =
    let here = (goal.at.slice_bounds-codes-end-2 c).After-blocks_of-k in
    codes_within c.args.input.now _ _ c.blocks_of-k.ensures (room here) _ c.put_codes.ensures (most here)

pub slice_bounds-card-end : goal.slice_bounds-card-end
slice_bounds-card-end c =
    let here = (goal.at.slice_bounds-card-end c).After-blocks_of-k in
    read_long c.args.input.now _ _ c.blocks_of-k.ensures (room here) _ c.put_codes.ensures (most here)

pub invariant_of-card : goal.invariant_of-card
invariant_of-card c =
    let here = (goal.at.invariant_of-card c).After-blocks_of-k in
    record { whole = read_fits c.args.input.now _ _ c.blocks_of-k.ensures (room here) _ c.put_codes.ensures (most here) }

pub slice_bounds-copy_from_slice-end : goal.slice_bounds-copy_from_slice-end
slice_bounds-copy_from_slice-end c = listing (goal.at.slice_bounds-copy_from_slice-end c).After-blocks_of-k

pub slice_bounds-copy_from_slice-end-2 : goal.slice_bounds-copy_from_slice-end-2
slice_bounds-copy_from_slice-end-2 c =
    let here = (goal.at.slice_bounds-copy_from_slice-end-2 c).After-blocks_of-k in
    lent c.args.input.now c.args.list.now _ c.blocks_of-k.ensures (room here) (listing here)

pub copy_from_slice-requires : goal.copy_from_slice-requires
copy_from_slice-requires c =
    let here = (goal.at.copy_from_slice-requires c).After-blocks_of-k in
    sym (lent c.args.input.now c.args.list.now _ c.blocks_of-k.ensures (room here) (listing here))
    ∙ read_long c.args.input.now _ _ c.blocks_of-k.ensures (room here) _ c.put_codes.ensures (most here)

pub returns-in_err-n : goal.returns-in_err-n
unfolding salvage_answer listed salvaged salvage_fault
returns-in_err-n c =
    let a = c.args in
    let here = (goal.at.returns-in_err-n c).After-blocks_of-k in
    let r = room here in
    let codes = codes_read a.input.now _ _ c.blocks_of-k.ensures r _ c.put_codes.ensures (most here) in
    let f = found_refused _ _ (sym (rw codes at c.find-found.ensures) ∙ c.in_err-n.was) in
    (rw (fine here, f) (search rules), rw (fine here) (list_made a.input.now _ _ c.blocks_of-k.ensures r _ c.put_codes.ensures (most here) a.list.now _ c.copy_from_slice.ensures.after), rw (fine here, f))

pub put_in_order-requires : goal.put_in_order-requires
put_in_order-requires c =
    let here = (goal.at.put_in_order-requires c).After-blocks_of-k in
    let fits = read_fits c.args.input.now _ _ c.blocks_of-k.ensures (room here) _ c.put_codes.ensures (most here) in
    let q = sym c.find-found.ensures ∙ c.in_ok-n.was in
    (found_within _ _ q, omega (arith, found_within _ _ q, fits.1, (room here).out), found_placed _ _ q)

pub overflow_mul-result : goal.overflow_mul-result
overflow_mul-result c =
    let here = (goal.at.overflow_mul-result c).After-blocks_of-k in
    let fits = read_fits c.args.input.now _ _ c.blocks_of-k.ensures (room here) _ c.put_codes.ensures (most here) in
    let q = sym c.find-found.ensures ∙ c.in_ok-n.was in
    omega (arith, found_within _ _ q, fits.0)

pub returns : goal.returns
unfolding listed salvaged salvage_fault mended
returns c =
    let a = c.args in
    let s = a.input.now in
    let here = (goal.at.returns c).After-blocks_of-k in
    let r = room here in
    let codes = codes_read s _ _ c.blocks_of-k.ensures r _ c.put_codes.ensures (most here) in
    let q = sym (rw codes at c.find-found.ensures) ∙ c.in_ok-n.was in
    let f = found_fine _ _ q in
    let m = found_many _ _ q in
    let long = mended_left s (length a.list.now) (length a.out.now) (fine here) f in
    let answer = answer_left s (length a.list.now) (length a.out.now) (fine here) in
    (rw m (rw f at answer), rw (fine here) (list_made s _ _ c.blocks_of-k.ensures r _ c.put_codes.ensures (most here) a.list.now _ c.copy_from_slice.ensures.after), rw (fine here, f, long) (rw (codes, m) at c.put_in_order.ensures))
