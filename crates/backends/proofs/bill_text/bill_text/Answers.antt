use Rattle.std.proofs.Common.{rules, ◌≡◌, refl, List, ◌++◌, map}
use Rattle.std.specs.List.{flat_map}
use Rattle.net_list.specs.declared.package.Package.{Package}
use Rattle.backends.specs.BillText.{articles_of, group_text, head_fields}
use Rattle.backends.specs.CsvRecords.{record_text}
use Rattle.backends.specs.steps.CsvWriters.{written}
use Rattle.backends.specs.steps.Groups.{group_record, group_seen, groups_of}
use Rattle.backends.proofs.GroupLemmas.{records_are}
use Rattle.backends.proofs.bill_text.bill_text.Goals as goal

pub returns : goal.returns
returns c =
    let packages : List Package = c.args.nets.now.packages in
    let groups = c.in_ok-groups.groups.items in
    let seen : map group_seen groups ≡ groups_of packages = search rules in
    let head : written c.put_head.new.writer ≡ record_text head_fields = search rules in
    let body : written c.put_groups.new.writer ≡ written c.put_head.new.writer ++ flat_map (λ g. group_record (group_seen g)) groups = search rules in
    let records = records_are packages groups seen in
    let all : written c.put_groups.new.writer ≡ record_text head_fields ++ flat_map (group_text packages) (articles_of packages) = rw (body, head, records) refl in
    search rules
