pub mod Rendezvous
