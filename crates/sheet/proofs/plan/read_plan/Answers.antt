use Rattle.std.proofs.Common.{◌≡◌, Ok, replicate, ap, ◌∙◌, rules, tests}
use Rattle.sheet_lines.specs.Lines.{lines, line_after}
use Rattle.sheet_lines.specs.Readings.{kind_line, parties_line}
use Rattle.sheet_lines.specs.declared.kind.Kind.TheVariants.{Blocks, Orders}
use Rattle.sheet_fields.specs.Texts.{block_text, order_text}
use Rattle.values.specs.Blocks.{block_bytes}
use Rattle.values.specs.Orders.{order_bytes}
use Rattle.sheet.specs.Sheets.{line_gives, fault_part, fault_lines, own_list}
use Rattle.sheet.proofs.Parts.{setting_read}
use Rattle.sheet.proofs.plan.read_plan.Goals as goal

pub returns-in-Blocks-clause-value : goal.returns-in-Blocks-clause-value
returns-in-Blocks-clause-value c =
    let ls = lines c.args.cursor.now.sheet.now in
    let n = c.in_ok-parties.parties in
    let f = c.in_ok-faults.faults in
    let b = c.read_setup.ensures in
    let kind : line_gives 1 (kind_line (line_after ls 0)) ≡ Ok Blocks = search (rules, tests) in
    let count : line_gives 2 (parties_line (line_after ls 1)) ≡ Ok n = search (rules, tests) in
    let faults : fault_lines ls n ≡ Ok (fault_part f.most f.parties c.take_faults.new.cursor.passed) = search (rules, tests) in
    let own = ap (λ s. own_list block_text (replicate 14 0) (lines s) f.parties c.take_faults.new.cursor.passed n) (c.in_ok-faults.ensures.same ∙ (c.in_ok-parties.ensures.same ∙ c.in_ok-kind.ensures.same)) in
    let m = setting_read ls Blocks n (fault_part f.most f.parties c.take_faults.new.cursor.passed) c.read_setup.new.cursor.passed block_bytes c.read_setup.result kind count faults b.passed b.given (b.value ∙ own) in
    search (rules, tests, m)

pub returns-in-Orders-clause-value : goal.returns-in-Orders-clause-value
returns-in-Orders-clause-value c =
    let ls = lines c.args.cursor.now.sheet.now in
    let n = c.in_ok-parties.parties in
    let f = c.in_ok-faults.faults in
    let b = c.read_setup-in-Orders.ensures in
    let kind : line_gives 1 (kind_line (line_after ls 0)) ≡ Ok Orders = search (rules, tests) in
    let count : line_gives 2 (parties_line (line_after ls 1)) ≡ Ok n = search (rules, tests) in
    let faults : fault_lines ls n ≡ Ok (fault_part f.most f.parties c.take_faults.new.cursor.passed) = search (rules, tests) in
    let own = ap (λ s. own_list order_text (replicate 3 0) (lines s) f.parties c.take_faults.new.cursor.passed n) (c.in_ok-faults.ensures.same ∙ (c.in_ok-parties.ensures.same ∙ c.in_ok-kind.ensures.same)) in
    let m = setting_read ls Orders n (fault_part f.most f.parties c.take_faults.new.cursor.passed) c.read_setup-in-Orders.new.cursor.passed order_bytes c.read_setup-in-Orders.result kind count faults b.passed b.given (b.value ∙ own) in
    search (rules, tests, m)
