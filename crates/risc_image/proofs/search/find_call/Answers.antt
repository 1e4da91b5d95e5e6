-- The links of the rows are the first words of the rows.
use Rattle.std.proofs.Common.{◌*◌, ◌≤◌, length, sym, arith}
use Rattle.risc_image.specs.Table.{words}
use Rattle.risc_image.proofs.Spelled.{words_length}
use Rattle.risc_image.proofs.Found.{call_links_rise, call_absent, call_present}
use Rattle.risc_image.proofs.search.find_call.Goals as goal

pub row_of-requires-clause-rising : goal.row_of-requires-clause-rising
row_of-requires-clause-rising c =
    let fits : 2 * c.call_count.result ≤ length (words c.args.table.now) = omega (arith, words_length c.args.table.now)
    in
    call_links_rise (words c.args.table.now) c.call_count.result fits c.call_count.ensures.rows c.requires

pub returns-in-None : goal.returns-in-None
returns-in-None c =
    let fits : 2 * c.call_count.result ≤ length (words c.args.table.now) = omega (arith, words_length c.args.table.now)
    in
    sym (call_absent (words c.args.table.now) c.call_count.result c.args.link fits c.call_count.ensures.rows
    c.in-None.ensures)

pub returns-in-Some : goal.returns-in-Some
returns-in-Some c =
    let fits : 2 * c.call_count.result ≤ length (words c.args.table.now) = omega (arith, words_length c.args.table.now)
    in
    sym (call_present (words c.args.table.now) c.call_count.result c.args.link c.in-Some.k c.read_call.result fits
    c.call_count.ensures.rows c.requires c.in-Some.ensures.0 c.in-Some.ensures.1 c.read_call.ensures)
