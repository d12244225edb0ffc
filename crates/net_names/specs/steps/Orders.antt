-- Steps of the code; no public clause cites them.
-- The orders of pins, of classes, of names and of nets by their names are total.
use Rattle.std.specs.declared.cmp.Ordering.{Ordering}
use Rattle.std.specs.Ordering.{on}
use Rattle.std.specs.Cmp.{IsTotalOrder, on_total, then_total, nat_cmp_total}
use Rattle.std.specs.Cmp.Lexicographic.{lists_total, options_total}
use Rattle.net_list.specs.declared.nets.Net.{Net}
use Rattle.net_names.specs.NetClasses.{by_member, by_pin}
use Rattle.net_names.specs.NetLists.{least_pin, by_least_pin, slashes, by_name}
use Rattle.geda_defs.specs.Order.{by_bytes}

-- texts by their bytes are in a total order
pub by_bytes_total : IsTotalOrder by_bytes
by_bytes_total = lists_total nat_cmp_total

-- pins by refdes and number are in a total order
pub by_member_total : IsTotalOrder by_member
by_member_total = then_total
    (on_total (λ p. p.member.refdes) by_bytes_total)
    (on_total (λ p. p.member.pin) by_bytes_total)

-- and so they are by place last
pub by_pin_total : IsTotalOrder by_pin
by_pin_total = then_total by_member_total (on_total (λ p. p.place) nat_cmp_total)

-- classes by their least pins are in a total order
pub by_least_pin_total : IsTotalOrder by_least_pin
by_least_pin_total = on_total least_pin (options_total by_pin_total)

-- names by their slashes, then by bytes, are in a total order
pub by_name_total : IsTotalOrder by_name
by_name_total = then_total (on_total slashes nat_cmp_total) by_bytes_total

-- nets by the bytes of their names
abbrev pub by_net_name : Net → Net → Ordering
by_net_name = on (λ n. n.name) by_bytes

-- and they are in a total order
pub by_net_name_total : IsTotalOrder by_net_name
by_net_name_total = on_total (λ n. n.name) by_bytes_total
