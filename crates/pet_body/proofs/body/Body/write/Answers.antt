use Rattle.std.proofs.Common.{append_assoc, rules, refl}
use Rattle.std.proofs.lemmas.List.{append-nil}
use Rattle.pet_body.proofs.Columns.{layout_read}
use Rattle.pet_body.proofs.body.Body.write.Goals as goal

pub returns-clause-octets : goal.returns-clause-octets
returns-clause-octets c =
    rw (
      c.put-8.ensures.octets,
      c.as_slice.ensures,
      c.put_u16-3.ensures.octets,
      c.put_u32-2.ensures.octets,
      c.put-7.ensures.octets,
      c.put-6.ensures.octets,
      c.put-5.ensures.octets,
      c.put-4.ensures.octets,
      c.put-3.ensures.octets,
      c.put-2.ensures.octets,
      c.put_u16-2.ensures.octets,
      c.put_u32.ensures.octets,
      c.put_u16.ensures.octets,
      c.put.ensures.octets,
      c.new-out.ensures,
    ) (simp (append_assoc, append-nil) refl)

pub returns-clause-reads_back : goal.returns-clause-reads_back
returns-clause-reads_back c =
    layout_read c.put-8.new.out c.args.self.now (record {
      guid = search rules;
      sequence = c.put_u16.ensures.small;
      timestamp = c.put_u32.ensures.small;
      utc = c.put_u16-2.ensures.small;
      event_data = search rules;
      manufacturer = c.put_u32-2.ensures.small;
      system = c.put_u16-3.ensures.small;
    }) (returns-clause-octets c)
