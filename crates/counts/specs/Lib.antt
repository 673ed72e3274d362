pub mod Said
