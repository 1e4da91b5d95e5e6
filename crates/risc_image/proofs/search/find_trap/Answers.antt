-- The links of the rows are the first words of the rows.
use Rattle.std.proofs.Common.{◌*◌, ◌≤◌, length, sym, arith}
use Rattle.risc_image.specs.Table.{words}
use Rattle.risc_image.proofs.Spelled.{words_length}
use Rattle.risc_image.proofs.Found.{trap_links_rise, trap_absent, trap_present}
use Rattle.risc_image.proofs.search.find_trap.Goals as goal

pub row_of-requires-clause-rising : goal.row_of-requires-clause-rising
row_of-requires-clause-rising c =
    let fits : 3 * c.trap_count.result ≤ length (words c.args.table.now) = omega (arith, words_length c.args.table.now)
    in
    trap_links_rise (words c.args.table.now) c.trap_count.result fits c.trap_count.ensures.rows c.requires

pub returns-in-None : goal.returns-in-None
returns-in-None c =
    let fits : 3 * c.trap_count.result ≤ length (words c.args.table.now) = omega (arith, words_length c.args.table.now)
    in
    sym (trap_absent (words c.args.table.now) c.trap_count.result c.args.link fits c.trap_count.ensures.rows
    c.in-None.ensures)

pub returns-in-Some : goal.returns-in-Some
returns-in-Some c =
    let fits : 3 * c.trap_count.result ≤ length (words c.args.table.now) = omega (arith, words_length c.args.table.now)
    in
    sym (trap_present (words c.args.table.now) c.trap_count.result c.args.link c.in-Some.k c.read_trap.result fits
    c.trap_count.ensures.rows c.requires c.in-Some.ensures.0 c.in-Some.ensures.1 c.read_trap.ensures)
