use Rattle.std.proofs.Common.{refl}
use Rattle.std.specs.Str.{is_utf8, chars}
use Rattle.std.specs.Char.{encode_utf8}
use Rattle.bus_frame.specs.Names.{is_interface, is_member, is_unique, is_well_known, is_bus, is_path}
use Rattle.bus_frame.specs.Types.{type_after, is_signature}
use Rattle.bus_frame.specs.Places.{aligned_at, number_at, text_at, long_text_at, short_text_at}
use Rattle.bus_frame.specs.Values.{variant_type_at}
use Rattle.bus_frame.specs.Fields.{content_at, field_at, add_field, fields_at}
use Rattle.bus_frame.specs.Reading.{fixed_of, fixed_fault, end_fault, known_in, frame_of}
use Rattle.bus_stream.specs.Stream.{messages_in, broken_in}
use Rattle.bus_proxy.proofs.laws.events_of_a_call.Goals as goal

pub returns-clause-whole : goal.returns-clause-whole
unfolding is_utf8 chars encode_utf8 messages_in broken_in frame_of fixed_of fixed_fault end_fault known_in fields_at add_field field_at content_at variant_type_at type_after long_text_at short_text_at text_at number_at aligned_at is_path is_member is_bus is_well_known is_unique is_interface is_signature
returns-clause-whole c = refl

pub returns-clause-in_two : goal.returns-clause-in_two
unfolding is_utf8 chars encode_utf8 messages_in broken_in frame_of fixed_of fixed_fault end_fault known_in fields_at add_field field_at content_at variant_type_at type_after long_text_at short_text_at text_at number_at aligned_at is_path is_member is_bus is_well_known is_unique is_interface is_signature
returns-clause-in_two c = refl

pub returns-clause-not_yet : goal.returns-clause-not_yet
unfolding is_utf8 chars encode_utf8 messages_in broken_in frame_of fixed_of fixed_fault end_fault known_in fields_at add_field field_at content_at variant_type_at type_after long_text_at short_text_at text_at number_at aligned_at is_path is_member is_bus is_well_known is_unique is_interface is_signature
returns-clause-not_yet c = refl

pub returns-clause-clean : goal.returns-clause-clean
unfolding is_utf8 chars encode_utf8 messages_in broken_in frame_of fixed_of fixed_fault end_fault known_in fields_at add_field field_at content_at variant_type_at type_after long_text_at short_text_at text_at number_at aligned_at is_path is_member is_bus is_well_known is_unique is_interface is_signature
returns-clause-clean c = refl

pub returns-clause-cut : goal.returns-clause-cut
unfolding is_utf8 chars encode_utf8 messages_in broken_in frame_of fixed_of fixed_fault end_fault known_in fields_at add_field field_at content_at variant_type_at type_after long_text_at short_text_at text_at number_at aligned_at is_path is_member is_bus is_well_known is_unique is_interface is_signature
returns-clause-cut c = refl

pub returns-clause-broken : goal.returns-clause-broken
unfolding is_utf8 chars encode_utf8 messages_in broken_in frame_of fixed_of fixed_fault end_fault known_in fields_at add_field field_at content_at variant_type_at type_after long_text_at short_text_at text_at number_at aligned_at is_path is_member is_bus is_well_known is_unique is_interface is_signature
returns-clause-broken c = refl
