use Rattle.std.proofs.Common.{◌+◌, ◌≤◌, ◌∙◌, arith, ap, sym, length}
use Rattle.refusal.proofs.First.{passed_on}
use Rattle.frame.specs.Layout.{header_of, cip_of, no_cip}
use Rattle.frame.specs.Reading.{read_answer}
use Rattle.frame.proofs.Groups.{long_enough, header_room}
use Rattle.frame.proofs.Answers.{length_refuses, header_refuses, tag_accepts, no_cip_header, block_refuses, all_accept}
use Rattle.frame.proofs.read.Goals as goal

pub returns-in_err-bytes : goal.returns-in_err-bytes
returns-in_err-bytes c =
    ap read_answer (passed_on c.from_residual.result c.in_err-bytes.field-0.0 c.from_residual.ensures.1)
    ∙ length_refuses c.args.frame.now _ c.in_err-bytes.ensures.number

pub returns-in_err-check_header : goal.returns-in_err-check_header
returns-in_err-check_header c =
    let r = c.from_residual-in_err-check_header in
    ap read_answer (passed_on r.result c.in_err-check_header.field-0.0 r.ensures.1)
    ∙ header_refuses c.args.frame.now c.in_ok-bytes.ensures.number (c.header-header.ensures ∙ ap header_of c.in_ok-bytes.ensures.same)
    _ c.in_err-check_header.ensures

pub returns-then-header-ne1 : goal.returns-then-header-ne1
unfolding no_cip
returns-then-header-ne1 c =
    let e = c.default.ensures in
    tag_accepts c.args.frame.now c.in_ok-bytes.ensures.number (c.header-header.ensures ∙ ap header_of c.in_ok-bytes.ensures.same)
    c.in_ok-check_header.ensures c.if-header-ne1.true
    (λ i. record { sid = e.0 i; dbs = e.1.0 i; fraction_number = e.1.1.0 i; qpc = e.1.1.1.0 i; sph = e.1.1.1.1.0 i; dbc = e.1.1.1.1.1.0 i; fmt = e.1.1.1.1.1.1.0 i; fdf = e.1.1.1.1.1.1.1.0 i; low_half = e.1.1.1.1.1.1.1.1 i })

pub returns-then-header-lt8 : goal.returns-then-header-lt8
returns-then-header-lt8 c =
    no_cip_header c.args.frame.now c.in_ok-bytes.ensures.number (c.header-header.ensures ∙ ap header_of c.in_ok-bytes.ensures.same)
    c.in_ok-check_header.ensures c.if-header-ne1.false c.if-header-lt8.true

-- past the checks of the header its data fits the frame
pub cip-cip-requires : goal.cip-cip-requires
cip-cip-requires c =
    let long = long_enough _ (sym c.in_ok-bytes.ensures.number) in
    let fits : c.header-header.result.stream.data_length + 42 ≤ length c.args.frame.now = header_room _ _ long (sym c.in_ok-check_header.ensures) in
    rw c.in_ok-bytes.ensures.same (omega arith)

pub returns-in_err-check_blocks : goal.returns-in_err-check_blocks
returns-in_err-check_blocks c =
    let r = c.from_residual-in_err-check_blocks in
    ap read_answer (passed_on r.result c.in_err-check_blocks.field-0.0 r.ensures.1)
    ∙ block_refuses c.args.frame.now c.in_ok-bytes.ensures.number (c.header-header.ensures ∙ ap header_of c.in_ok-bytes.ensures.same)
    c.in_ok-check_header.ensures c.if-header-ne1.false c.if-header-lt8.false (c.cip-cip.ensures ∙ ap cip_of c.in_ok-bytes.ensures.same)
    _ c.in_err-check_blocks.ensures

pub returns : goal.returns
returns c =
    all_accept c.args.frame.now c.in_ok-bytes.ensures.number (c.header-header.ensures ∙ ap header_of c.in_ok-bytes.ensures.same)
    c.in_ok-check_header.ensures c.if-header-ne1.false c.if-header-lt8.false (c.cip-cip.ensures ∙ ap cip_of c.in_ok-bytes.ensures.same)
    c.in_ok-check_blocks.ensures
